pub mod Ranks
pub mod Laws
