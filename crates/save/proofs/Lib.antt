mod Kept
mod Writing
pub mod Files
pub mod Unlocked
