pub mod ImportSlots
pub mod Phases
pub mod Whole
