pub mod Contexts
pub mod Workers
pub mod Books
pub mod Gathered
pub mod Ended
