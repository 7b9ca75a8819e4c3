pub mod At
pub mod TwoBytes
