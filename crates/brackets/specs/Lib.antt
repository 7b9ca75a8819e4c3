pub mod Row
pub mod Fields
pub mod Codes
pub mod Reached
pub mod Content
