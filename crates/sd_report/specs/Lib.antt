pub mod Report
pub mod Undone
pub mod Words
pub mod Refusals
pub mod Places
pub mod Replies
pub mod Names
pub mod Summary
