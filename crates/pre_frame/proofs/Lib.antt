pub mod Frames
pub mod Octets
pub mod FrameLaws
pub mod BuiltLaws
pub mod FrameFacts
