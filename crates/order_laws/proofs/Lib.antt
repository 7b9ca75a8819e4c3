pub mod Climbs
pub mod Modes
pub mod Reader
pub mod Proved
