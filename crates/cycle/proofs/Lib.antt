mod Chosen
mod Counts
mod Kept
mod Loop
