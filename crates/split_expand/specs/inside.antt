-- What the code says of its work list. No public clause cites it.
pub mod Growing
