pub mod Devices
pub mod Laws
pub mod Reading
pub mod Claims
pub mod Made
