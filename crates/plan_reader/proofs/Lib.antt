pub mod Spoken
pub mod Plans
pub mod FirstWord
pub mod Faults
