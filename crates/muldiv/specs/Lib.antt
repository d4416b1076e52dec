pub mod Muldiv
