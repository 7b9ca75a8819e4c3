pub mod Iff
pub mod Rules
pub mod Limited
pub mod Proved
