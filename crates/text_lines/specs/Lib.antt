pub mod Numbers
pub mod Forms
pub mod Rows
pub mod Lines
pub mod Words
