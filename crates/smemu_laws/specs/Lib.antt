pub mod Names
pub mod OneAnswer
pub mod Asked
