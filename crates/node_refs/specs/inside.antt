-- Definitions that only code and proofs speak of. No public clause cites them.
pub mod Told
