pub mod Shares
pub mod Splits
pub mod Sizes
pub mod Exact
pub mod Stated
pub mod Areas
pub mod Laws
pub mod Small
