pub mod Drawn
pub mod Stepping
