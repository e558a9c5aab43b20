pub mod Permuted
pub mod Sums
pub mod Pairs
