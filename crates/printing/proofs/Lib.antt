pub mod Decimal
pub mod Padding
pub mod Writing
