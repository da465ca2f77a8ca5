pub mod Keeping
pub mod Answering
pub mod Bodies
pub mod Opening
pub mod Owes
pub mod Paid
mod Rolling
mod Owing
mod Fallen
pub mod Found
mod Closed
pub mod LedgerOpening
pub mod LedgerBodies
