pub mod Places
pub mod SortedLists
pub mod Tables
