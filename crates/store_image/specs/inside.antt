-- What only code and proofs speak of.
pub mod Reads
pub mod Saves
