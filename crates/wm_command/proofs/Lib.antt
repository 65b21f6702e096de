mod Back
mod CommandForms
mod FieldForms
mod LawForms
mod PrintValues
mod ReadBack
mod ReadForms
mod ReadValues
mod TableForms
pub mod Texts
pub mod WordsBack
pub mod Digits
pub mod Forms
pub mod Plain
