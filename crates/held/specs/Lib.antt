pub mod Tells
pub mod Held
