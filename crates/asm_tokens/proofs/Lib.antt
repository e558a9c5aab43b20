pub mod Following
pub mod Leading
pub mod Probing
pub mod Naming
pub mod Steps
pub mod Registers
pub mod Slashes
