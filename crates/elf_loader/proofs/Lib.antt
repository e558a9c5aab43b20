mod FirstUnlisted
mod Extents
pub mod Checks
pub mod Written
pub mod Images
