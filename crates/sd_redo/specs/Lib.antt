pub mod Replayed
pub mod Changes
pub mod Spots
pub mod PageReplays
