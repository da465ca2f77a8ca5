pub mod Causes
pub mod Forms
pub mod Keeping
pub mod Sums
pub mod Leading
pub mod Serving
pub mod Gains
pub mod Losses
mod Example
