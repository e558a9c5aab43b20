pub mod Holding
pub mod Cores
pub mod Ends
pub mod Gathering
pub mod Numbering
pub mod Books
pub mod Whole
pub mod Runs
