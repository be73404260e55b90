pub mod Adding
pub mod Beginnings
pub mod Behind
pub mod NameRows
pub mod Names
pub mod Outcomes
pub mod Pushed
pub mod SymbolIndexes
