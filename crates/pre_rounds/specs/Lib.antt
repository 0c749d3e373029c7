pub mod Rounds
pub mod Passing
pub mod Settling
pub mod Causes
pub mod Answers
pub mod Routed
pub mod Tables
pub mod Written
