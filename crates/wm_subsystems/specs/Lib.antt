pub mod Gone
pub mod OneJob
pub mod Telling
pub mod Walks
