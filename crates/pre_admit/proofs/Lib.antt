pub mod Lists
mod Locality
mod Certificates
mod Joins
mod Answers
pub mod Admitting
