pub mod Areas
pub mod PartPut
pub mod BracketPut
pub mod Filled
