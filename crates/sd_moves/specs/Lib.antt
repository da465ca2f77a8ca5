pub mod Places
pub mod Passing
pub mod Putting
pub mod Rebuilding
pub mod Falling
pub mod Settling
pub mod Opening
