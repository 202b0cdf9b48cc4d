pub mod Numbers
pub mod Vectors
pub mod Grammar
pub mod Records
pub mod Batch
pub mod After
pub mod Reading
pub mod Present
