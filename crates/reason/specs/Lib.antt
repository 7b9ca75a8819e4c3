pub mod Smallest
pub mod Named
pub mod Hunt
