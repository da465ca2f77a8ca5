pub mod Behind
mod Commits
pub mod Example
pub mod Formats
pub mod Groups
pub mod Lengths
pub mod Lists
pub mod Numbers
pub mod Parts
pub mod Places
pub mod Records
pub mod Rising
mod Rooms
pub mod WholeFronts
pub mod Writes
