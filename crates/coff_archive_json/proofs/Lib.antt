pub mod LineValues
pub mod Members
pub mod Rows
