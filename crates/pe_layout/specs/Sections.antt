-- How the sections of an image lie, which a search among them relies on, and what it finds. No contract of a public function uses
-- this module.
use Rattle.std.specs.Prelude.{◌≡◌, ℕ, ◌+◌, ◌<◌, ◌≤◌, List, length, slice_index_or, slice_get, option_map, unwrap_or, None, Some}
use Rattle.pe_head.specs.declared.section.SectionHeader.{SectionHeader}
use Rattle.pe_head.specs.declared.headers.Headers.{Headers}
use Rattle.pe_head.specs.Section.{rawlen}
use Rattle.pe_layout.specs.Piece.{end_of, section_of, section_index}
use Rattle.pe_layout.specs.Plain.{IsIn}
use Rattle.pe_layout.specs.declared.locate.Spot.{Spot}
use Rattle.pe_layout.specs.declared.locate.Spot.TheVariants.{Section, Gap}

-- each section ends at or before the beginning of every later one
abbrev pub LieApart : List SectionHeader → Type 0
LieApart ss = (i j : ℕ) (d : SectionHeader) → i < j → j < length ss → end_of (slice_index_or ss i d) ≤ (slice_index_or ss j d).virtual_address

-- an RVA is in a section, which the search finds for each RVA of its extent, and whose raw data is inside a file of `size` bytes
pub record IsInSection (h : Headers) (size r : ℕ) (s : SectionHeader) : Type 0 where
  pub inside : IsIn r s
  pub section : (k : ℕ) → IsIn k s → section_of h k ≡ Some s
  pub raw : 0 < rawlen s → s.pointer_to_raw_data + rawlen s ≤ size
  pub ends : end_of s ≤ h.size_of_image

-- an RVA is in a gap that goes on up to `end`
pub record IsInGap (h : Headers) (r end : ℕ) : Type 0 where
  pub index : section_index h r ≡ None
  pub empty : (k : ℕ) → r ≤ k → k < end → section_of h k ≡ None
  pub some : r < end
  pub inside : end ≤ h.size_of_image

-- where the gap ends that is before section i, or after the last section
abbrev pub gap_end : Headers → ℕ → ℕ
gap_end h i = unwrap_or (option_map (λ s. s.virtual_address) (slice_get h.sections.items i)) h.size_of_image

-- an RVA is in section i
pub record IsInSectionAt (h : Headers) (size r i : ℕ) (s : SectionHeader) : Type 0 where
  pub index : section_index h r ≡ Some i
  pub found : IsInSection h size r s

-- where an RVA after the headers is
abbrev pub IsSpot : Headers → ℕ → ℕ → Spot → Type 0
IsSpot h size r (Section i s) = IsInSectionAt h size r i s
IsSpot h size r (Gap end) = IsInGap h r end
