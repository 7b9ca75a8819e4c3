pub mod CurlyLaws
pub mod Proved
pub mod Facts
pub mod Bare
pub mod Areas
pub mod Idle
pub mod Remeasured
