pub mod Whole
pub mod Owed
pub mod Told
pub mod Turns
