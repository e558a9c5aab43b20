pub mod Compare
pub mod DifferLines
