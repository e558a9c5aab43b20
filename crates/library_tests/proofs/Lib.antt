pub mod Makers
pub mod Places
pub mod TwoPages
