pub mod Pages
pub mod Parts
