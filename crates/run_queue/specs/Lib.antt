pub mod Ticketed
pub mod Passes
pub mod Rule
pub mod Queues
