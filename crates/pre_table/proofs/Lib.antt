mod Texts
mod Known
mod Gathered
mod Elements
pub mod Added
pub mod FirstRows
pub mod Repeated
mod Inserted
pub mod PairsAdded
pub mod NoFaults
