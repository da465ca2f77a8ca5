pub mod Kept
pub mod Lending
pub mod Marked
pub mod Owing
pub mod Transactions
