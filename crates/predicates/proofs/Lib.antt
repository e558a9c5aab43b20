pub mod Governed
pub mod Bits
pub mod Powers
pub mod Loops
pub mod Differences
pub mod Gathered
pub mod Whole
pub mod Below
