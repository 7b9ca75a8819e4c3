pub mod Looks
pub mod Calls
pub mod Outputs
pub mod Surveyed
