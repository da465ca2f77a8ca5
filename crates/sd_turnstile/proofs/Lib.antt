pub mod Led
mod Sums
mod Seats
mod Draws
mod Looks
mod Leaves
mod Raises
mod Closes
