pub mod Recording
pub mod Texts
pub mod Answers
pub mod Standing
pub mod OneProof
pub mod Replayed
pub mod Session
pub mod AtAddress
