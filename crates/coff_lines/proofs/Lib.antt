pub mod ArchiveRows
pub mod ArchiveWalk
pub mod ObjectLines
pub mod ObjectPlaces
pub mod ObjectRows
