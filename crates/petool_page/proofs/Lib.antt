pub mod Answered
pub mod ByKind
pub mod Numbered
