pub mod Written
pub mod Here
pub mod Ranks
