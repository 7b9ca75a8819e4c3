pub mod Legible
pub mod Marked
pub mod Copies
