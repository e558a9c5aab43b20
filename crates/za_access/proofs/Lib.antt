pub mod Units
pub mod Loaded
