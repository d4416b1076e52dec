pub mod Digests
pub mod Places
