pub mod Answered
pub mod Flat
pub mod Joins
pub mod PlansMade
pub mod ServesMade
pub mod Shapes
pub mod Walks
