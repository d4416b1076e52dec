mod Alike
mod Folding
pub mod Folds
pub mod Steps
pub mod Tallied
mod Touched
