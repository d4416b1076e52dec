pub mod Operands
pub mod Grammar
pub mod Reading
