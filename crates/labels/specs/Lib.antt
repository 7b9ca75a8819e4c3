pub mod Says
pub mod Within
