pub mod Written
pub mod Hearing
pub mod NextTlv
pub mod Whole
pub mod Front
pub mod PduLaws
pub mod ReadBack
pub mod Runs
