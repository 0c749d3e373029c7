pub mod Routed
pub mod Parts
