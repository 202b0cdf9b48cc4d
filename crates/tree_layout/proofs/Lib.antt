pub mod Lists
pub mod Filled
pub mod Saved
pub mod Sized
pub mod Counted
