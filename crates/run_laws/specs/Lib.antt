pub mod Options
pub mod Rests
