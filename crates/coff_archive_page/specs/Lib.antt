pub use Rattle.pe_view.specs.Faults
pub use Rattle.coff_archive.specs.FileTests
pub use Rattle.pe_text.specs.Engine
pub use Rattle.coff_lines.specs.ArchiveLines
pub mod ArchiveJudged
