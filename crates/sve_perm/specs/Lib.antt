pub mod Permute
pub mod Active
pub mod Reduce
