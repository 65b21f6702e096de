pub mod Causes
pub mod Changes
pub mod Done
pub mod Errors
pub mod Faults
pub mod Opened
