pub mod Pages
pub mod Rebasing
pub mod Room
pub mod Sets
pub mod Told
