pub mod Listening
pub mod Standing
pub mod Resting
