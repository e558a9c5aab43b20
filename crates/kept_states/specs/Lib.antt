pub mod Pages
pub mod Listed
pub mod Fields
pub mod Kept
