pub mod Counting
pub mod Parting
pub mod Deleted
pub mod Told
pub mod inside
