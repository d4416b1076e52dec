pub mod Agreement
pub mod Marked
pub mod Masks
pub mod Quotients
pub mod Rules
pub mod Steps
