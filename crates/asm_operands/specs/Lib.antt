pub mod Aliases
pub mod Distances
pub mod Fields
pub mod Moves
pub mod Operands
pub mod Shown
pub mod Sound
pub mod Views
