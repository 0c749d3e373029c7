pub mod Lines
pub mod Words
pub mod Writing
pub mod Spelled
pub mod Reading
