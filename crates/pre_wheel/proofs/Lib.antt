pub mod Games
pub mod Leaves
pub mod Turns
