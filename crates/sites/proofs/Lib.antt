pub mod Ways
pub mod Termini
pub mod Lists
