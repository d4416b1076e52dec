pub mod Entries
pub mod Backs
pub mod Widths
pub mod Coding
pub mod Lines
pub mod Written
pub mod Steps
pub mod Undone
