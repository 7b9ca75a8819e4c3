pub mod Sums
pub mod Zeros
pub mod Fronts
pub mod Answers
