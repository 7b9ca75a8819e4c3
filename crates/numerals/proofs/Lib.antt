pub mod DigitLaws
pub mod NumberLaws
pub mod Ranges
pub mod Bounds
pub mod Scores
