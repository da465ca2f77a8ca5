pub mod Page
pub mod Reading
pub mod Spelling
pub mod Writing
