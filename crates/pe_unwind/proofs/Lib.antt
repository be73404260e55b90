pub mod ArmRows
pub mod Chained
pub mod Rows
pub mod Slots
