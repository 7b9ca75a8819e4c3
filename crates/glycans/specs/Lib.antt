pub mod Cut
pub mod Kept
pub mod Pieces
