pub mod Any
pub mod Names
pub mod Rows
pub mod Found
pub mod Whole
