pub mod Lists
pub mod Draws
pub mod Networks
pub mod Rows
pub mod Scripts
pub mod Plants
pub mod Curves
pub mod Counts
