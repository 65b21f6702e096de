pub mod Cause
pub mod InOrder
pub mod Rows
pub mod Spawner
pub mod Told
