pub mod Documents
pub mod Values
pub mod Rows
pub mod FirstFaults
pub mod TextSets
