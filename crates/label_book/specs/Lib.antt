pub mod Labels
pub mod Parting
pub mod inside
