pub mod Joining
pub mod Options
pub mod Plans
pub mod Told
pub mod Values
