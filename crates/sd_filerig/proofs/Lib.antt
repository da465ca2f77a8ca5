pub mod Stable
pub mod Torn
