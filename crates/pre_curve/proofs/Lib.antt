pub mod Prefixes
pub mod Filling
pub mod Tokens
