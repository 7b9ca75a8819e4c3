pub mod Looking
pub mod Steps
pub mod Sorts
pub mod Says
