pub mod Uncounted
pub mod Journals
pub mod Ticks
