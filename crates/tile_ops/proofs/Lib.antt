pub mod Filled
pub mod Joined
pub mod ReadBack
pub mod Summed
