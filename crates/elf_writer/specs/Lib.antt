pub mod TextMappings
pub mod Slots
pub mod Layout
pub mod File
