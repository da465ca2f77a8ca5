mod Following
mod Told
pub mod Scripted
