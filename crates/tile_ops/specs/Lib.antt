pub mod Slices
pub mod Moves
pub mod Sums
pub mod Laws
pub mod Named
