pub mod Below
pub mod Fault
pub mod Header
pub mod Segments
pub mod Loads
pub mod Spans
