pub mod Telling
pub mod Slotted
pub mod Tallied
pub mod Rings
