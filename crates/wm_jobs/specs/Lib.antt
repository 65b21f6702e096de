pub mod Indexed
pub mod Marked
pub mod Standings
pub mod Stored
pub mod Table
pub mod TableInside
