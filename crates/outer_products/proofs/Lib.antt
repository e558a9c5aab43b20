pub mod Sums
pub mod Lanes
pub mod Numbers
pub mod Active
pub mod Written
pub mod Widened
pub mod RowSums
pub mod AtPlaces
