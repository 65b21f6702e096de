pub mod Hosts
pub mod Lines
pub mod Parts
pub mod Queued
pub mod Ranks
pub mod Sorted
pub mod Views
