pub mod Either
pub mod Lines
pub mod Writable
