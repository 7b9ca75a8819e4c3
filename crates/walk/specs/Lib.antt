pub mod Stages
pub mod Steps
pub mod Walked
