pub mod Tests
pub mod Options
pub mod Numbers
pub mod Lists
