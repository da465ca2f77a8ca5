mod RereadFits
mod FreedFits
mod Left
mod Rebuilt
mod Settled
mod Begun
mod Cleared
mod Steps
mod Reading
mod Lowered
mod Touched
mod Doing
mod Fallen
pub mod Work
mod Decides
mod Ends
mod Ended
mod Finished
mod Swept
mod Away
mod Stepped
mod UndoneFor
mod UndoServed
mod UndoSteps
mod UndoBreaks
mod UndoFails
mod Wanting
pub mod Rows
pub mod Owns
mod Nexts
mod NextOne
pub mod Awaited
mod JoinTouched
mod Armed
pub mod Failed
mod Fewer
mod Spans
mod Started
mod Unjoined
mod Joined
mod Calls
pub mod Shut
