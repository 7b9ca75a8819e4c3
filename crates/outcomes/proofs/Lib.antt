pub mod Samples
pub mod Blocks
