pub mod AnyCores
pub mod OneRun
pub mod Rests
