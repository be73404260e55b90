pub mod AsImports
pub mod Choices
pub mod Found
pub mod Naming
mod Rows
pub mod Steps
pub mod Walks
pub mod Whole
