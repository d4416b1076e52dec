pub mod Syntax
pub mod Reading
pub mod Table
pub mod Parts
