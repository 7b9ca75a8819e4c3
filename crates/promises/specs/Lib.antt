pub mod Keeping
pub mod Promises
