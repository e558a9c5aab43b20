pub mod Conditions
pub mod Named
pub mod Numbers
pub mod Parts
pub mod Ranges
pub mod Rows
pub mod Table
pub mod Values
