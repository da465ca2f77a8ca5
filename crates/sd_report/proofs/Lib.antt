mod Examples
mod FewBytes
pub mod LineOrder
mod Notes
mod OneLine
pub mod Scripts
mod Unnamed
pub mod Growing
mod Sets
mod NumberTexts
mod Accounts
