pub mod Bytes
pub mod Cause
pub mod ChangeLog
pub mod Keeping
pub mod Removal
pub mod Reports
pub mod Texts
pub mod Writing
