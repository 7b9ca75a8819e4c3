pub mod Wholes
pub mod Lowest
pub mod Chained
pub mod Runs
