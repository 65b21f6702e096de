pub mod Parts
pub mod Plausible
pub mod ReadingInside
pub mod Restarted
pub mod Written
