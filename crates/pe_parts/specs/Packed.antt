-- A file of which only the headers and the raw data of some sections are at hand, packed: one behind the other.
use Rattle.std.specs.Prelude.{◌≡◌, ℕ, ◌+◌, ◌<◌, ◌≤◌, ◌||◌, Bool, true, nat_lt, List, length, [], ◌∷◌, Option, None, Some, option_map, unwrap_or, if◌then◌else◌}
use Rattle.pe_view.specs.Number.{byte_of}
use Rattle.pe_head.specs.declared.section.SectionHeader.{SectionHeader}
use Rattle.pe_head.specs.declared.headers.Headers.{Headers}
use Rattle.pe_head.specs.Section.{rawlen}
use Rattle.pe_layout.specs.Piece.{end_of, section_of}
use Rattle.pe_layout.specs.Image.{LaidOut}

-- the section with its raw data at another file offset
abbrev pub moved : SectionHeader → ℕ → SectionHeader
moved s pointer = record s { pointer_to_raw_data = pointer }

-- the packed bytes hold the raw data of a section of the file
pub record IsHeld (file packed : List ℕ) (s : SectionHeader) (pointer : ℕ) : Type 0 where
  pub raw : 0 < s.pointer_to_raw_data
  pub within : pointer + rawlen s ≤ length packed
  pub bytes : (k : ℕ) → k < rawlen s → byte_of packed (pointer + k) ≡ byte_of file (s.pointer_to_raw_data + k)

-- sections of the file, and how they stand in the packed bytes: with their raw data where it is there, or at 0 if it is not there
abbrev pub AreHeld : List ℕ → List ℕ → List SectionHeader → List SectionHeader → Type 0
AreHeld file packed [] [] = Unit {0}
AreHeld file packed [] (t ∷ ts) = ⊥
AreHeld file packed (s ∷ ss) [] = ⊥
AreHeld file packed (s ∷ ss) (t ∷ ts) =
    (t ≡ moved s t.pointer_to_raw_data) × ((0 < t.pointer_to_raw_data → IsHeld file packed s t.pointer_to_raw_data) × AreHeld file packed ss ts)

-- the headers with the sections and the string table of packed ones
abbrev pub repacked : Headers → Headers → Headers
repacked h p = record h { sections = record { items = p.sections.items }; pointer_to_symbol_table = p.pointer_to_symbol_table; number_of_symbols = p.number_of_symbols }

-- packed bytes with headers under which they stand for a file that has other headers
pub record IsPacked (file : List ℕ) (h : Headers) (packed : List ℕ) (p : Headers) : Type 0 where
  pub headers : p ≡ repacked h p
  pub bytes : (r : ℕ) → r < h.size_of_headers → byte_of packed r ≡ byte_of file r
  pub sections : AreHeld file packed h.sections.items p.sections.items

-- the raw data of a section is there; of a gap it is
abbrev pub is_held : Option SectionHeader → Bool
is_held None = true
is_held (Some t) = nat_lt 0 t.pointer_to_raw_data

-- the byte at an RVA is there, by the packed bytes' headers
abbrev pub at_hand : Headers → ℕ → Bool
at_hand p r = nat_lt r p.size_of_headers || is_held (section_of p r)

-- where the piece that contains an RVA ends; in a gap a string reads nothing
abbrev pub piece_end : Headers → ℕ → ℕ
piece_end p r = if nat_lt r p.size_of_headers then p.size_of_headers else unwrap_or (option_map end_of (section_of p r)) 0

-- from an RVA on, all bytes of its piece are there
abbrev pub IsPieceAtHand : Headers → ℕ → Type 0
IsPieceAtHand p r = (k : ℕ) → r ≤ k → k < piece_end p r → at_hand p k ≡ true

-- other bytes and strings are those of the packed bytes' image wherever they are there
pub record AgreeAtHand (p : Headers) (i : LaidOut) (b : ℕ → ℕ) (t : ℕ → Option (List ℕ)) : Type 0 where
  pub bytes : (r : ℕ) → at_hand p r ≡ true → b r ≡ i.byte r
  pub texts : (r : ℕ) → IsPieceAtHand p r → t r ≡ i.text r
