pub mod Answering
pub mod MonthLaws
pub mod Months
