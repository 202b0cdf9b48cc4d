pub mod Pages
pub mod Listing
pub mod Faults
pub mod Laws
pub mod inside
