pub mod Digits
pub mod Storing
pub mod Signs
pub mod Progress
