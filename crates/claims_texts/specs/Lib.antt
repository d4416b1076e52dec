pub mod Assembly
pub mod Examples
pub mod Listings
pub mod Texts
