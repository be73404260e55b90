pub mod Characters
pub mod ReachingTables
pub mod Rows
pub mod Stepping
pub mod TestsFound
pub mod Zeros
