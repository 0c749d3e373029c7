pub mod Sizes
pub mod Spaced
pub mod Flying
pub mod Counting
pub mod Stores
pub mod Stations
