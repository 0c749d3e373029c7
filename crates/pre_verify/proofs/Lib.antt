pub mod Lists
pub mod Runs
pub mod Standing
pub mod Steps
pub mod Dues
