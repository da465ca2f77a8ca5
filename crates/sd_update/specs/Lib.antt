pub mod Changing
pub mod Undoing
pub mod Sealing
pub mod UndoingFor
