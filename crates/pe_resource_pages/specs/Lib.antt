pub use Rattle.pe_text.specs.TextWriter
pub use Rattle.pe_page.specs.Page
pub mod ResourceTypes
