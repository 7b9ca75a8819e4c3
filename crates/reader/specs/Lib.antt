pub mod ReadSays
