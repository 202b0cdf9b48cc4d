mod Zeros
pub mod Gates
pub mod Parts
pub mod Moving
pub mod Items
pub mod Lists
pub mod Openings
pub mod Written
pub mod Committing
pub mod Births
pub mod Looking
pub mod Marks
pub mod Reading
pub mod Taking
pub mod Recovery
pub mod Finding
