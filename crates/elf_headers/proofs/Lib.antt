pub mod Below
pub mod Checks
pub mod Sound
pub mod Apart
pub mod Counting
pub mod Touched
pub mod Extents
