pub mod Due
pub mod DueRanges
pub mod Laws
pub mod Schedule
