pub mod Children
pub mod Kills
pub mod Programs
pub mod Reports
pub mod Threads
pub mod Waiting
