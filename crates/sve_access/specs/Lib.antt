pub mod Contiguous
pub mod Elements
pub mod Owned
pub mod After
pub mod Registers
