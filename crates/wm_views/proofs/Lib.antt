pub mod HostedJobs
pub mod OfParts
pub mod QueuedJobs
pub mod Selected
pub mod Stable
