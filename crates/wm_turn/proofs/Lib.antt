pub mod Histories
pub mod InTurn
pub mod Keeps
pub mod Laid
pub mod Parts
pub mod Passes
