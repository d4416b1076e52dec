pub mod Alike
pub mod Scanning
pub mod Symbols
pub mod Division
