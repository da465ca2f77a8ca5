pub mod Lines
pub mod Ordinals
pub mod Readings
pub mod Scripts
pub mod Remembering
mod Taking
pub mod Steps
mod Numbers
pub mod Parting
pub mod Words
pub mod Shapes
pub mod Spellings
pub mod Refused
pub mod OneForm
pub mod Packing
mod Rising
pub mod FirstCause
pub mod Causing
mod Printed
mod Trying
mod Plain
pub mod Passing
mod Idle
