-- from describe/records.txt: modules
pub mod Counts
pub mod ExportRows
pub mod Faults
pub mod FixupRows
pub mod HeaderRows
pub mod Images
pub mod ImportRows
pub mod Lines
pub mod MovedRows
pub mod ObjectHeaderRows
pub mod ObjectRows
pub mod Rows
pub mod SetRows
pub mod Spaces
pub mod SymbolRows
pub mod TableTests
pub mod UnboundRows
pub mod ValueNames
pub mod ValueRows
pub mod Wants

-- end of describe/records.txt
