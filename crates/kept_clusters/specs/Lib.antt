pub mod Kept
pub mod Paid
pub mod Work
pub mod Asked
pub mod inside
