pub mod Filling
pub mod Placing
