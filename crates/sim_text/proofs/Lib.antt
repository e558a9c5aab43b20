pub mod Counted
pub mod SkipLines
