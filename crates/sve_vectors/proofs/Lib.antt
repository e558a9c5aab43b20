pub mod Bits
pub mod Held
pub mod Lent
pub mod Whole
pub mod Writing
pub mod Zero
