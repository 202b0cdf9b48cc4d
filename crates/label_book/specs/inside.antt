-- What the code keeps, and how each of its steps changes it.
pub mod Kept
pub mod Steps
