pub mod Bytes
pub mod Front
pub mod Taken
