pub mod Texts
pub mod Taken
