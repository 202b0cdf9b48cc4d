-- What only code and proofs speak of.
pub mod Counting
pub mod Joins
