-- Facts that the code that writes the fields of a file needs. No contract of a public function uses this module.
use Rattle.std.specs.Prelude.{◌≡◌, ℕ, ◌+◌, ◌<◌, ◌≤◌, true, Some, All, AllPairs}
use Rattle.pe_head.specs.declared.section.SectionHeader.{SectionHeader}
use Rattle.pe_head.specs.declared.headers.Headers.{Headers}
use Rattle.pe_head.specs.Section.{rawlen}
use Rattle.pe_layout.specs.Piece.{end_of}
use Rattle.pe_tables.specs.Fixups.{width_of}
use Rattle.pe_tables.specs.declared.fixups.Fixup.{Fixup}
use Rattle.pe_write.specs.Rebase.{keeps, raw_section}

-- what is inside the section's raw data is in no other section
pub record IsHolder (h : Headers) (s : SectionHeader) : Type 0 where
  pub only : (f : Fixup) → keeps f.field (width_of f.kind) s ≡ true → raw_section h f ≡ Some s

-- the sections are after the headers and disjoint, and a file of this size contains their raw data
pub record AreLaid (h : Headers) (size : ℕ) : Type 0 where
  pub behind : All (λ (s : SectionHeader). h.size_of_headers ≤ s.virtual_address) h.sections.items
  pub apart : AllPairs (λ (s later : SectionHeader). end_of s ≤ later.virtual_address) h.sections.items
  pub held : All (λ (s : SectionHeader). 0 < rawlen s → s.pointer_to_raw_data + rawlen s ≤ size) h.sections.items
