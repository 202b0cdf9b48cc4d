pub mod Inserted
pub mod Joining
pub mod Told
pub mod inside
