pub mod Ascii
pub mod Tokens
pub mod Scan
