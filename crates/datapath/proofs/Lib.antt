mod Choice
mod Done
mod Together
mod Locks
