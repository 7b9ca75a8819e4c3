pub mod Says
pub mod Progress
