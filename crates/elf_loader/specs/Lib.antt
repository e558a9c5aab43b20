pub mod Loading
pub mod Objects
