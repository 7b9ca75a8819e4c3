pub mod Unprintable
pub mod Trying
pub mod Judging
