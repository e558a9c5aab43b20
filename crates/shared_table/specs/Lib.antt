pub mod Cells
pub mod Views
pub mod Rule
pub mod Seats
