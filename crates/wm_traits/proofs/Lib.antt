pub mod Sorted
pub mod Telling
