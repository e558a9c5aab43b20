pub mod Code
pub mod Block
pub mod Dormant
pub mod Instructions
pub mod Outcome
pub mod Interleaved
