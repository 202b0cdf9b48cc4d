-- How each step of the code changes the books.
pub mod Lowering
pub mod Cutting
pub mod Clearing
