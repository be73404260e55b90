pub use Rattle.md5.specs.Md5
pub use Rattle.pe_tables.specs.Imports
pub mod Characters
pub mod ImportText
pub mod Oleaut32
pub mod Winsock
