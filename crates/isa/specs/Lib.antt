pub mod Sheet
pub mod Instructions
pub mod Masks
pub mod Layouts
