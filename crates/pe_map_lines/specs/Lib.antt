pub mod DelayedReport
pub mod MapReport
pub mod SameSets
pub mod SpaceReport
pub mod UnboundImports
