pub mod Planning
pub mod Setting
pub mod Editing
pub mod Owning
pub mod Spoiling
pub mod Putted
pub mod Edited
pub mod Vacating
pub mod Filling
pub mod Filled
pub mod Begins
pub mod Work
pub mod WaitEnded
mod Lasts
pub mod Commits
pub mod Underway
pub mod Committing
mod Marking
pub mod Held
mod Rows
mod Lists
mod Used
pub mod Asking
mod Reading
mod Calms
mod Outs
mod Turned
pub mod Undone
mod Ends
mod Finishing
pub mod Leaving
pub mod Logging
mod Endings
