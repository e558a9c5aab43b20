pub mod Core
pub mod Sizes
pub mod Vectors
pub mod Copies
pub mod Permutes
pub mod Predicates
pub mod Counts
pub mod Step
