pub mod Usage
pub mod Counting
