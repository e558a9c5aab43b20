pub mod OuterProducts
pub mod Sources
pub mod Laws
