pub mod Firsts
pub mod Steps
pub mod Bounds
pub mod Told
pub mod Pairs
pub mod Owed
pub mod Bits
pub mod Levels
