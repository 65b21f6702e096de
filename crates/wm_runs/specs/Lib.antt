pub mod Chained
pub mod Turns
pub mod Counts
pub mod Draws
pub mod Drill
pub mod Unfailing
pub mod Text
pub mod Words
