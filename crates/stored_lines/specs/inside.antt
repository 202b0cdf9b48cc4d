-- Definitions that only code and proofs speak of.
pub mod Steps
