pub mod Pieces
pub mod Slots
pub mod Parts
pub mod Told
pub mod Opened
pub mod Written
pub mod Changed
pub mod Copied
