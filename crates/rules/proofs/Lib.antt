pub mod Values
pub mod Choices
pub mod Effects
pub mod Steps
pub mod Locks
