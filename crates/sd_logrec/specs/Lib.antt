pub mod Kept
pub mod Fronts
pub mod Lent
pub mod Reading
pub mod Spelling
pub mod View
pub mod Writing
