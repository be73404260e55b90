pub mod ByParts
pub mod Copied
pub mod ImageFile
pub mod Pieces
