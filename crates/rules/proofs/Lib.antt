pub mod Gathered
pub mod Noting
pub mod Ruling
pub mod Searched
pub mod Tried
pub mod Whole
