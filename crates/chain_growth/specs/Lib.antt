pub mod Hops
pub mod inside
