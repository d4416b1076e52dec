pub mod Fields
pub mod Encoding
