pub mod HeadLemmas
pub mod LineLemmas
pub mod PathLemmas
pub mod SameLemmas
pub mod StayLemmas
