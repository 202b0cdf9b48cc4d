-- Lists of numbers, and a work list that grows along chains. No public clause cites them.
pub mod Lists
pub mod Work
