pub mod Runs
pub mod Loads
pub mod Entries
pub mod Example
