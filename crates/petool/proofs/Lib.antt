pub mod WordBytes
pub mod Rows
