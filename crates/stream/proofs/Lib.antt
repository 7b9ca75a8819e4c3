pub mod Handing
pub mod Turning
pub mod Telling
