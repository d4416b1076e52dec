pub mod Undone
pub mod Held
mod Turns
pub mod Left
