pub mod Empty
pub mod Looked
pub mod Listing
pub mod Cheap
pub mod Told
pub mod Changing
pub mod Moving
