pub mod Demands
pub mod Curly
