pub mod Handed
pub mod Sizes
pub mod Units
pub mod Values
pub mod Walks
