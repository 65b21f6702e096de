pub mod Held
pub mod Kinds
pub mod Passed
pub mod Rule
pub mod Views
