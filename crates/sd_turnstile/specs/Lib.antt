pub mod Turns
pub mod Rule
