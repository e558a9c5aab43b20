pub mod Elements
pub mod Numbers
pub mod Laws
pub mod Spread
pub mod Active
pub mod Lanes
