pub mod Fits
pub mod Lent
pub mod Told
pub mod Why
