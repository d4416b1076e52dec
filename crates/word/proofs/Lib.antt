pub mod Computed
pub mod Tests
pub mod Signed
pub mod Shifts
pub mod Tables
