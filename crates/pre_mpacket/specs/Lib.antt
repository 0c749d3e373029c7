pub mod Spelling
pub mod Pieces
pub mod Arrivals
pub mod Open
pub mod Counters
