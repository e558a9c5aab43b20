pub mod Either
pub mod Apart
