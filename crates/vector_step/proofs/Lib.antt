pub mod Sizes
pub mod Ones
