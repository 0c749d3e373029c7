pub mod Layout
pub mod FrameFields
pub mod Views
pub mod Built
