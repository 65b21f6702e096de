pub mod Fitting
pub mod Places
pub mod Rows
pub mod Tables
pub mod JobText
pub mod Reading
pub mod Scan
pub mod Stored
