pub mod Lent
pub mod TooLong
pub mod Following
