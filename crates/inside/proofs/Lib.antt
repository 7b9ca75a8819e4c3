pub mod Lists
pub mod Answers
pub mod Codes
pub mod OnePart
pub mod Tables
pub mod Reading
pub mod Steps
