pub mod Least
pub mod Laws
pub mod Runs
pub mod Rows
