mod Named
pub mod Rows
pub mod Vectors
