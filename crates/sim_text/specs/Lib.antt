pub mod Skips
pub mod History
pub mod Sim
