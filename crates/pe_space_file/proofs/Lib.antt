mod Defined
mod Pieces
pub mod Placed
mod Sizes
