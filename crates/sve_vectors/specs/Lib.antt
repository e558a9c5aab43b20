pub mod Lengths
pub mod Predicates
pub mod Registers
pub mod State
pub mod Lending
pub mod Layout
