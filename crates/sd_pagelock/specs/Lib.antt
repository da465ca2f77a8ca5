pub mod Directory
pub mod Places
pub mod Rows
pub mod Moves
pub mod Noted
pub mod Table
pub mod Asks
