pub mod Texts
pub mod Sugars
pub mod Names
pub mod Counts
pub mod Ending
pub mod Ways
pub mod Putting
pub mod Said
