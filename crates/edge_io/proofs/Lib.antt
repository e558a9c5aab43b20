pub mod Appending
pub mod Failing
pub mod Gathering
pub mod Writing
