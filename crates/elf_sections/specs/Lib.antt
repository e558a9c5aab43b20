pub mod Sections
pub mod MappingSymbols
pub mod FirstBytes
pub mod Code
pub mod LoadMap
pub mod Repeats
pub mod SymbolOrder
pub mod WordRanges
