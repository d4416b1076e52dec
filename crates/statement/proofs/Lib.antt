pub mod Tables
pub mod Search
pub mod Items
pub mod Statements
pub mod Grammar
pub mod Valued
