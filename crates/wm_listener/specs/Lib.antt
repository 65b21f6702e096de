pub mod Had
pub mod Memory
pub mod Next
pub mod System
