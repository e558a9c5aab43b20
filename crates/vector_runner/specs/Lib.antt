pub mod Field
pub mod Words
pub mod Grammar
pub mod Told
pub mod State
pub mod Prepared
pub mod Answer
pub mod Run
