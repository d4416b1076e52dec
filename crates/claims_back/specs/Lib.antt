pub mod History
pub mod Lines
pub mod Longer
pub mod StepBack
