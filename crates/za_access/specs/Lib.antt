pub mod Contents
pub mod Vectors
pub mod Slices
pub mod Units
