pub mod Fits
pub mod Left
