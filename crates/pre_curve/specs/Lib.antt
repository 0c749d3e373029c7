pub mod Windows
pub mod Levels
pub mod Meters
pub mod Buckets
