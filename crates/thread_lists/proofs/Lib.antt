pub mod Sums
pub mod Rising
