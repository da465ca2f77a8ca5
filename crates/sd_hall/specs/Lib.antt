pub mod Keeping
pub mod Served
pub mod Owed
pub mod Bodies
pub mod Ledger
pub mod Found
pub mod Closed
