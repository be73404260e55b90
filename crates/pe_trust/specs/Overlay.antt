-- Where the file of an image ends by its headers; what is behind is its overlay.
use Rattle.std.specs.Prelude.{ℕ, ◌+◌, ◌==◌, max, List, [], ◌∷◌, if◌then◌else◌}
use Rattle.pe_head.specs.declared.headers.Headers.{Headers}
use Rattle.pe_head.specs.declared.section.SectionHeader.{SectionHeader}

-- where the raw data of a section end, with the bytes that pad them; nowhere if it has none
abbrev pub raw_end : SectionHeader → ℕ
raw_end s = if s.pointer_to_raw_data == 0 then 0 else s.pointer_to_raw_data + s.size_of_raw_data

abbrev pub sections_end : List SectionHeader → ℕ
sections_end [] = 0
sections_end (s ∷ ss) = max (raw_end s) (sections_end ss)

abbrev pub file_end : Headers → ℕ
file_end h = max h.size_of_headers (sections_end h.sections.items)
