pub mod DelayedLines
pub mod MapLines
pub mod Mapped
pub mod Reported
pub mod Rows
pub mod SameSets
pub mod Unbound
