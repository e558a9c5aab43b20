pub mod Cells
pub mod Names
pub mod Views
pub mod Operations
pub mod Seats
pub mod Closing
