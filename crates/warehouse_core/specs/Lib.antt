pub mod Batches
pub mod Receipts
pub mod States
pub mod Applying
pub mod Queries
pub mod Work
pub mod Costs
pub mod Inside
