pub mod Fields
pub mod Word
pub mod Codes
