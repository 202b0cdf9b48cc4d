pub mod Lists
pub mod Halves
pub mod Inserted
pub mod Removed
pub mod Tagged
pub mod Shapes
pub mod Sizes
pub mod Opened
mod Uses
