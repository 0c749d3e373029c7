pub mod Causes
pub mod Faults
pub mod Takings
pub mod Held
pub mod Counts
pub mod Receivers
pub mod Steps
