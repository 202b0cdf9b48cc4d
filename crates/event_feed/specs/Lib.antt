pub mod Meanings
pub mod Texts
pub mod inside
