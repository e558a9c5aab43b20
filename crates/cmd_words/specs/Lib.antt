pub mod Options
pub mod Forms
pub mod Words
pub mod Command
pub mod Given
