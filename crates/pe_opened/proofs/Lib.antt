mod Kept
pub mod Stored
pub mod Handles
