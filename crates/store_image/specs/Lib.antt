pub mod Images
pub mod Contents
pub mod Loading
pub mod Placing
pub mod Clustered
pub mod Stores
pub mod SavedLaws
pub mod inside
