pub mod Tasks
pub mod Recovering
pub mod Rebuilding
pub mod Work
pub mod Doing
pub mod Joining
pub mod Closing
