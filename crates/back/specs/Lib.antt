pub mod Backs
pub mod Parts
