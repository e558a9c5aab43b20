pub mod Checks
pub mod Groups
pub mod HasLine
pub mod Numbers
pub mod OfVectors
pub mod Ranged
