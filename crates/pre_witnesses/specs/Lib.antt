pub mod CutFrame
pub mod VerifiedLink
