pub mod Sums
pub mod Flat
pub mod Signed
pub mod Kept
pub mod Once
pub mod Within
pub mod Words
pub mod Outside
pub mod OneEntry
pub mod Marks
pub mod NameSets
pub mod Rest
mod DerRows
mod FileRows
mod RichRows
mod Rows
