mod Calm
pub mod Alike
pub mod Failing
pub mod Reopened
mod Nine
mod Ended
mod Claiming
mod Apart
mod Matching
mod Pages
mod Tables
mod Places
pub mod Found
