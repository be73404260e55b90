pub mod DetailTexts
mod ExportRows
mod FaultRows
mod FixupRows
mod ImportRows
mod ObjectRows
mod Pages
mod WordRows
