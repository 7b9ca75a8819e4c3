pub mod Saying
pub mod Names
pub mod Scores
pub mod Kept
