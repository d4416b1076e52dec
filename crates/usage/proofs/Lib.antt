mod Added
pub mod Functions
pub mod InMasks
mod Methods
pub mod Raised
pub mod Sums
pub mod Timed
pub mod Traces
pub mod Words
