pub use Rattle.pe_view.specs.Faults
pub mod AtPlaces
pub mod Colours
