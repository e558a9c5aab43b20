pub mod Chains
pub mod Blocks
pub mod Listed
pub mod Faults
