pub mod Checkpoint
pub mod Putting
pub mod Loose
pub mod Beyond
