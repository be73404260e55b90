pub mod Class
pub mod Ownership
