pub mod Slots
pub mod Stations
pub mod Wires
