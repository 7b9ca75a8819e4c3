pub mod Cutting
pub mod Room
pub mod Putting
