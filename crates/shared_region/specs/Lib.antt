pub mod WordRule
pub mod History
pub mod Chain
pub mod Tickets
pub mod Ports
