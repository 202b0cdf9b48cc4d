pub mod Empty
pub mod Left
