pub mod Length
pub mod Options
pub mod SharedOps
pub mod Bytes
pub mod Checks
pub mod Objects
pub mod Routines
pub mod Ranges
