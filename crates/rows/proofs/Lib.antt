pub mod Ones
pub mod Firsts
