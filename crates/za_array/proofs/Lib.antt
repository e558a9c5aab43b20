pub mod Rows
pub mod Places
pub mod Whole
pub mod Changed
