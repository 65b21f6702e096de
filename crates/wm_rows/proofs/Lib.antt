pub mod Digits
pub mod Doubling
pub mod FieldsBack
pub mod PhaseBack
pub mod Ranges
pub mod ReadBack
pub mod Seams
