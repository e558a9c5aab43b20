pub mod Courses
pub mod Needing
pub mod Runs
pub mod Ports
pub mod Owners
pub mod Moving
pub mod Joining
pub mod Cores
