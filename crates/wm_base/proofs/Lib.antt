pub mod Iterate
pub mod Lists
pub mod Names
pub mod Numbers
pub mod Orderings
pub mod Tests
pub mod Texts
