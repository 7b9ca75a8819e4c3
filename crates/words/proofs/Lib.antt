pub mod Words
pub mod Rules
