pub mod Passed
mod UnboundRows
