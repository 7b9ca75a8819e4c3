pub mod Right
pub mod Found
pub mod Answers
pub mod Loops
