-- How the pieces of an image lie. No contract of a public function uses this module.
use Rattle.std.specs.Prelude.{ℕ, ◌≡◌, ◌+◌, ◌^◌, ◌<◌, ◌≤◌, List, length, All, AllPairs}
use Rattle.pe_head.specs.declared.section.SectionHeader.{SectionHeader}
use Rattle.pe_head.specs.declared.headers.Headers.{Headers}
use Rattle.pe_head.specs.Section.{rawlen}
use Rattle.pe_layout.specs.Piece.{end_of}
use Rattle.pe_layout.specs.Plain.{IsLaidOut}
use Rattle.pe_reach.specs.Parts.{HasPart}

-- a file of `size` bytes has the raw data of a section
abbrev pub IsHeld : ℕ → SectionHeader → Type 0
IsHeld size s = 0 < rawlen s → s.pointer_to_raw_data + rawlen s ≤ size

-- The image is small, and the headers are inside it and the file; the sections are inside the image after them, disjoint and in
-- the order of their RVAs, and the file has their raw data.
pub record LieInOrder (h : Headers) (file : List ℕ) : Type 0 where
  pub laid_out : IsLaidOut h file
  pub small : h.size_of_image ≤ 2 ^ 31
  pub headers_held : h.size_of_headers ≤ length file
  pub headers_inside : h.size_of_headers ≤ h.size_of_image
  pub behind : All (λ (s : SectionHeader). h.size_of_headers ≤ s.virtual_address) h.sections.items
  pub inside : All (λ (s : SectionHeader). end_of s ≤ h.size_of_image) h.sections.items
  pub apart : AllPairs (λ (s later : SectionHeader). end_of s ≤ later.virtual_address) h.sections.items
  pub held : All (IsHeld (length file)) h.sections.items

-- a file of this length begins with these bytes
abbrev pub BeginsWith : ℕ → List ℕ → List ℕ → Type 0
BeginsWith len bytes file = (length file ≡ len) × HasPart file (record { offset = 0; bytes = bytes })

-- so the image of each such file lies in order
abbrev pub LiesInEach : ℕ → Headers → List ℕ → Type 0
LiesInEach len h bytes = (file : List ℕ) → BeginsWith len bytes file → LieInOrder h file
