pub mod Lists
pub mod Digest
pub mod Lent
pub mod File
pub mod Runs
pub mod Print
