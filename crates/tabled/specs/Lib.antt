pub mod Fourteen
pub mod LineOf
