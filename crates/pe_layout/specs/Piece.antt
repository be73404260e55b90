-- The pieces of a laid-out image: the headers, and the extent of each section. The rest is gaps.
use Rattle.std.specs.Prelude.{ℕ, ◌+◌, ◌&&◌, Bool, nat_lt, nat_le, find, position, Option}
use Rattle.pe_head.specs.declared.section.SectionHeader.{SectionHeader}
use Rattle.pe_head.specs.declared.headers.Headers.{Headers}
use Rattle.pe_head.specs.Section.{extent}

-- the RVA after a section's last byte
abbrev pub end_of : SectionHeader → ℕ
end_of s = s.virtual_address + extent s

-- an RVA is in the section
abbrev pub holds : ℕ → SectionHeader → Bool
holds r s = nat_le s.virtual_address r && nat_lt r (end_of s)

-- the section that contains an RVA, and its index
abbrev pub section_of : Headers → ℕ → Option SectionHeader
section_of h r = find (holds r) h.sections.items

abbrev pub section_index : Headers → ℕ → Option ℕ
section_index h r = position (holds r) h.sections.items
