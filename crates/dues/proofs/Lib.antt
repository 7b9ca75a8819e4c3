pub mod Labels
pub mod Lowest
pub mod Numerals
pub mod Values
