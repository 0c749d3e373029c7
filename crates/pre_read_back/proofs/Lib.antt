pub mod Steps
pub mod Sayings
pub mod Whole
pub mod Comments
