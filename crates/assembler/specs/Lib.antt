pub mod Text
pub mod Passes
