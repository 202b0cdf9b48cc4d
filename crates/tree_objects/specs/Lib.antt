pub mod Objects
pub mod Laws
pub mod Sizes
