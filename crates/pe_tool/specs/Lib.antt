pub mod RebasedSet
pub mod RebaseRun
