pub mod Rules
pub mod Seen
pub mod Drafts
pub mod Saying
pub mod Reading
pub mod Fits
pub mod Text
pub mod Same
