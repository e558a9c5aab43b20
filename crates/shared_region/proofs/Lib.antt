pub mod Growth
pub mod Chains
pub mod Journals
pub mod Words
