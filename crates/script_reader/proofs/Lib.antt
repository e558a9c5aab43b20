pub mod Addresses
pub mod Spoken
pub mod Scripts
pub mod FirstWord
pub mod Faults
