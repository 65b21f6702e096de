pub mod Objects
pub mod Place
pub mod Ranges
pub mod Refusals
pub mod Sorted
pub mod Table
pub mod Opening
