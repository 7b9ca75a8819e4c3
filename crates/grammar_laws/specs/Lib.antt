pub mod Texts
pub mod Runs
pub mod Laws
