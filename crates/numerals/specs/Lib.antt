pub mod Numerals
pub mod Examples
