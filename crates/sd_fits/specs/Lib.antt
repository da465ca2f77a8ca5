pub mod Bodies
pub mod Closed
pub mod Fits
pub mod Opened
pub mod Serving
pub mod Sums
pub mod Resting
pub mod Untouched
