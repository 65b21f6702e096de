pub mod GoneAlike
pub mod OneJobs
pub mod Tellings
pub mod Walks
pub mod Wished
