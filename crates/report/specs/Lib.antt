pub mod Printed
pub mod Example
