pub mod Lines
pub mod Feeding
pub mod Laws
pub mod TooLong
pub mod Cuts
pub mod Lent
pub mod Puts
pub mod Examples
