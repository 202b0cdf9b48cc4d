-- What only code and proofs speak of.
pub mod Looked
pub mod Moving
