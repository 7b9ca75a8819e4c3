pub mod Whole
pub mod Says
pub mod Counted
pub mod Nexts
pub mod Finding
