pub mod LowFirst
pub mod Block
pub mod Area
pub mod Chain
pub mod Entry
pub mod Answers
pub mod Sizes
pub mod Map
