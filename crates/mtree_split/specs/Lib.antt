pub mod Choice
pub mod Laws
pub mod Least
pub mod Sides
