pub mod Pages
pub mod PageCauses
pub mod Answers
pub mod Bounds
pub mod Serving
pub mod Leading
pub mod Laws
