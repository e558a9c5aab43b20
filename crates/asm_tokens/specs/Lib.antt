pub mod Characters
pub mod Numbers
pub mod Slots
pub mod Tokens
