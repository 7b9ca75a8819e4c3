pub mod Back
pub mod Digits
pub mod Last
pub mod Enumerated
pub mod Masses
pub mod Written
pub mod Rightward
pub mod Proved
