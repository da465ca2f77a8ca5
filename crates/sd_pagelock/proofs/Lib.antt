pub mod Kept
mod Rooms
pub mod Alone
pub mod Drops
pub mod Members
pub mod Falls
pub mod Forms
pub mod Losses
pub mod Rowwise
pub mod Unused
pub mod Uses
mod Counts
pub mod Firsts
mod Groups
pub mod TableKept
mod Finds
mod Lookups
pub mod Queues
pub mod Raised
