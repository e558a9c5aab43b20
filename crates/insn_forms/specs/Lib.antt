pub mod Fields
pub mod Forms
pub mod Tables
pub mod Tree
pub mod Values
