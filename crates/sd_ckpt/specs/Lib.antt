pub mod Beginnings
pub mod Endings
pub mod Laws
pub mod Masters
pub mod Readings
pub mod Rows
