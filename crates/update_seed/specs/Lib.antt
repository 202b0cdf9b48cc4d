pub mod Books
pub mod Price
pub mod Groups
pub mod Offers
pub mod Outgoing
pub mod inside
