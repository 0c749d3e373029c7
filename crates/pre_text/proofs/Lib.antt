pub mod Hexes
pub mod WordsDropped
pub mod OneReading
pub mod Cuts
pub mod Numbers
pub mod Pairs
pub mod ReadBack
pub mod Decimals
