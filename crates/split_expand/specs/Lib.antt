pub mod Remaining
pub mod Split
pub mod inside
