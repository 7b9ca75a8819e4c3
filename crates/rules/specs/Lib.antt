pub mod Told
pub mod Ruled
pub mod Shapes
