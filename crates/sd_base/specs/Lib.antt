pub mod Sets
pub mod Streams
pub mod Twin
pub mod Ids
pub mod Waits
pub mod Values
pub mod Held
pub mod Standing
