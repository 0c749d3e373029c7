pub mod Flights
pub mod Changes
pub mod Inputs
pub mod Judging
pub mod Wires
pub mod Arriving
pub mod Landings
