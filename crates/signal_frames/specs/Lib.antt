pub mod Layout
pub mod Frame
pub mod Saved
pub mod Return
pub mod Writing
pub mod Reading
pub mod Law
