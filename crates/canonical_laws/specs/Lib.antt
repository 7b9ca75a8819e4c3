pub mod Laws
pub mod Plainly
