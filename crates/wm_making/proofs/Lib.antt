pub mod OfObjects
pub mod PutBack
