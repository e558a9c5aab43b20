pub mod Flags
pub mod Predicates
pub mod Patterns
pub mod Logical
pub mod Loops
pub mod Compare
pub mod Counts
