pub mod Exchanging
pub mod RebasedSets
pub mod RebaseRuns
