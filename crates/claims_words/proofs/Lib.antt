pub mod Computed
pub mod Decides
pub mod Instructions
pub mod Ranges
pub mod Unassigned
pub mod Written
