pub mod Slots
pub mod Rising
pub mod Nodes
pub mod inside
pub mod Laws
