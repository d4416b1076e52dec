pub mod Machine
pub mod Step
pub mod Run
pub mod Lengths
pub mod Slices
pub mod Held
pub mod Stops
