pub mod Outcomes
pub mod Printing
pub mod Compositions
pub mod Declarations
pub mod Measured
pub mod Reasons
