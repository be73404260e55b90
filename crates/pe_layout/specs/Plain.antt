-- The bytes of a laid-out image.
use Rattle.std.specs.Prelude.{◌≡◌, ℕ, ◌+◌, ◌-◌, ◌<◌, ◌≤◌, nat_lt, slice_get, List, map, Option, None, Some, if◌then◌else◌}
use Rattle.std.specs.List.{range_with_len}
use Rattle.pe_view.specs.Number.{byte_of}
use Rattle.pe_head.specs.declared.section.SectionHeader.{SectionHeader}
use Rattle.pe_head.specs.declared.headers.Headers.{Headers}
use Rattle.pe_head.specs.Section.{rawlen}
use Rattle.pe_layout.specs.Piece.{end_of, section_of}

-- the byte at an RVA of a section or gap: a section's first `rawlen` bytes are the file's, and all others are 0
abbrev pub section_byte : List ℕ → ℕ → Option SectionHeader → ℕ
section_byte file r None = 0
section_byte file r (Some s) = if nat_lt (r - s.virtual_address) (rawlen s) then byte_of file (s.pointer_to_raw_data + (r - s.virtual_address)) else 0

-- the byte at an RVA of the image: the headers are the file's first bytes
abbrev pub plain : Headers → List ℕ → ℕ → ℕ
plain h file r = if nat_lt r h.size_of_headers then byte_of file r else section_byte file r (section_of h r)

-- the `len` bytes from an RVA on
abbrev pub plain_bytes : Headers → List ℕ → ℕ → ℕ → List ℕ
plain_bytes h file r len = map (plain h file) (range_with_len r len)

-- an RVA is in the section
pub record IsIn (r : ℕ) (s : SectionHeader) : Type 0 where
  pub low : s.virtual_address ≤ r
  pub high : r < end_of s

-- The bytes of an image, piece by piece. An RVA is in at most one section.
pub record IsLaidOut (h : Headers) (file : List ℕ) : Type 0 where
  pub headers : (r : ℕ) → r < h.size_of_headers → plain h file r ≡ byte_of file r
  pub raw : (r k : ℕ) (s : SectionHeader) → slice_get h.sections.items k ≡ Some s → IsIn r s → r - s.virtual_address < rawlen s → plain h file r ≡ byte_of file (s.pointer_to_raw_data + (r - s.virtual_address))
  pub zeros : (r k : ℕ) (s : SectionHeader) → slice_get h.sections.items k ≡ Some s → IsIn r s → rawlen s ≤ r - s.virtual_address → plain h file r ≡ 0
  pub gaps : (r : ℕ) → h.size_of_headers ≤ r → ((k : ℕ) (s : SectionHeader) → slice_get h.sections.items k ≡ Some s → ¬ (IsIn r s)) → plain h file r ≡ 0
