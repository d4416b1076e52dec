mod Sums
pub mod Joined
pub mod Bounds
mod Turning
mod Rounds
pub mod Verdicts
pub mod Handed
mod Shares
mod Pages
