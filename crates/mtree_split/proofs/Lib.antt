pub mod Bounds
pub mod Firsts
pub mod Nearest
pub mod Pairs
pub mod Places
pub mod Radii
pub mod Rows
pub mod Turns
