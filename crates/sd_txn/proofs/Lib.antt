pub mod Alike
mod Keyed
mod Marks
pub mod Owing
mod Placed
pub mod Stacks
mod Steps
mod Sums
