mod Answered
mod Rising
mod Scripts
mod Puts
mod Takes
mod Commands
