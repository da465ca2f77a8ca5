pub mod PassFits
pub mod Told
mod Barred
pub mod Evicted
pub mod Asked
pub mod Fetched
pub mod Shown
pub mod Taken
mod Dropped
mod Given
mod Sent
pub mod PutFits
pub mod Broken
pub mod Unput
pub mod Forced
pub mod Forces
pub mod Settled
pub mod Writes
pub mod Touched
pub mod Rested
