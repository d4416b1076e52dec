pub mod Log
pub mod Registers
pub mod Inputs
pub mod Runs
pub mod Answers
pub mod Lines
