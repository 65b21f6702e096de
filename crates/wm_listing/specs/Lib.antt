pub mod Columns
pub mod Listing
pub mod Log
pub mod Said
pub mod Words
