pub mod Places
pub mod Says
