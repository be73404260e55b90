pub use Rattle.pe_text.specs.Engine
pub use Rattle.pe_text.specs.TextWriter
pub use Rattle.pe_page.specs.Judged
pub mod SetJudged
