pub mod Room
pub mod Gate
pub mod Writes
pub mod Same
pub mod Steps
pub mod Promises
pub mod Births
pub mod Looks
