pub mod Naming
pub mod Lines
pub mod Doing
pub mod Begins
pub mod Backs
pub mod Undoing
pub mod Tables
pub mod Joining
pub mod Recovering
pub mod RecoveringOne
pub mod Replays
mod Risen
mod Example
mod Restarts
mod SurvivorExample
pub mod Finding
pub mod Pools
mod Openings
pub mod OpeningExample
pub mod Acts
pub mod Tops
pub mod Bodies
pub mod Measures
pub mod Nearing
pub mod Telling
pub mod Needs
pub mod Rooms
pub mod Running
pub mod Ways
pub mod Lined
pub mod Marks
pub mod Steps
pub mod Answering
pub mod Asking
pub mod Helps
pub mod Pulled
pub mod Victims
pub mod Operating
pub mod Recovered
pub mod Rounds
mod Singles
mod Quiet
mod Stands
mod Emptied
pub mod Behind
mod Onward
mod Unused
