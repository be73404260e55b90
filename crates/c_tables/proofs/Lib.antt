mod ArchiveRows
mod FewMembers
mod FewStrings
mod FewSymbols
mod Fields
mod Filled
mod FindingParts
mod FirstFound
mod Found
mod Functions
mod Keys
mod PresentFaults
mod RichPairs
mod Signed
mod SmallFiles
mod Steps
mod TrustRows
pub mod FewRows
pub mod FilledRows
pub mod Opened
pub mod Sections
pub mod Telling
