pub mod Options
pub mod Rows
pub mod SomeLines
pub mod Readings
pub mod Passing
pub mod Sound
