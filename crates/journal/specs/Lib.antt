pub mod Journal
pub mod Ranges
pub mod Parts
