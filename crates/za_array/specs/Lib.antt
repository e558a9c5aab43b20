pub mod Array
pub mod Lending
pub mod Layout
pub mod Tiles
