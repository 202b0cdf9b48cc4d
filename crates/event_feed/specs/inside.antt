-- Definitions that only code and proofs speak of. No public clause cites them.
pub mod Counts
pub mod Ring
