pub mod Answers
pub mod Cutting
pub mod Fields
pub mod Heads
pub mod Laws
pub mod Lines
pub mod Parts
pub mod Routes
