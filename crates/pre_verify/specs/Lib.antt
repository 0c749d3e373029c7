pub mod Calls
pub mod Verifiers
