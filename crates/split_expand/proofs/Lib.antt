pub mod Parted
pub mod Paid
pub mod Begun
pub mod Known
pub mod Sets
pub mod Tested
pub mod Remain
pub mod Meeting
