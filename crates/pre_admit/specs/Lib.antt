pub mod Names
pub mod Routes
pub mod Reasons
pub mod Touched
pub mod Local
pub mod Certified
pub mod Admissions
pub mod LocalLaw
