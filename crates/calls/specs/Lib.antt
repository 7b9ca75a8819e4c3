pub mod Held
pub mod Single
pub mod Floating
pub mod Reaching
pub mod Rows
pub mod Writing
pub mod Competing
pub mod Says
