pub mod Numbers
pub mod Standing
pub mod Texts
pub mod Zeros
