pub mod Bounds
pub mod Commands
pub mod Drawing
pub mod Queues
pub mod Runs
pub mod Statuses
pub mod Traces
