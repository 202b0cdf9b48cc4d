pub mod Fields
pub mod Heads
pub mod Slots
pub mod Bodies
pub mod Leaves
pub mod Inner
pub mod Laws
pub mod Steps
