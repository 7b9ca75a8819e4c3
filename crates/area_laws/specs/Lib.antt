pub mod LowFirst
pub mod Sums
pub mod Areas
pub mod Fields
