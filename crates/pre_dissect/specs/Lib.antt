pub mod PacketWords
pub mod Dissections
pub mod Answers
pub mod Captured
pub mod Fronts
pub mod Sendings
pub mod Watching
pub mod Results
