pub mod Making
pub mod Saved
