pub mod Slots
pub mod Stores
pub mod Ports
