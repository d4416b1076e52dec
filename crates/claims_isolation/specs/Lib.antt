pub mod Kept
pub mod Locked
pub mod LockedPages
