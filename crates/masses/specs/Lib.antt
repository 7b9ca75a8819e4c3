pub mod Reach
pub mod Weights
pub mod Tallies
pub mod Booking
