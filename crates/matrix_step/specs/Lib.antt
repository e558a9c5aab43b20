pub mod Lengths
pub mod Step
