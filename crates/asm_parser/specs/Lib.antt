pub mod Statements
pub mod Lines
pub mod Told
pub mod Grammar
