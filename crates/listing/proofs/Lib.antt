pub mod Registers
pub mod Numbers
pub mod Items
pub mod Rows
pub mod Lines
