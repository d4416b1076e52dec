pub mod TrimFile
