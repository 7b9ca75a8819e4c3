pub mod Numbers
pub mod Handed
pub mod Shapes
pub mod Blocks
