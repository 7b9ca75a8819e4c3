pub mod Due
pub mod Says
