pub mod Terms
pub mod Sums
pub mod Placed
pub mod Weights
