pub mod Sisa
