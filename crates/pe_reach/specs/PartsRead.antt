-- Which parts of a file are read, and what they decide.
use Rattle.std.specs.Prelude.{ℕ, ◌≡◌, ◌+◌, ◌-◌, ◌^◌, ◌<◌, ◌≤◌, ◌⊎◌, ◌&&◌, ◌||◌, Bool, false, nat_lt, nat_le, max, List, [], ◌∷◌, ◌++◌, length, map, take, slice_get, Option, None, Some, is_none, if◌then◌else◌}
use Rattle.pe_view.specs.Faults.{first_standing}
use Rattle.pe_head.specs.declared.directory.Directory.{Directory}
use Rattle.pe_head.specs.declared.section.SectionHeader.{SectionHeader}
use Rattle.pe_head.specs.declared.headers.Headers.{Headers}
use Rattle.pe_head.specs.Head.{head_of}
use Rattle.pe_head.specs.HeaderFaults.{head_tests}
use Rattle.pe_head.specs.Section.{rawlen}
use Rattle.pe_layout.specs.Piece.{holds}
use Rattle.pe_layout.specs.SectionFaults.{layout_tests, placing_tests}
use Rattle.coff_read.specs.ImageNames.{image_strings, section_name}
use Rattle.pe_text.specs.declared.outcome.ToolError.{ToolError}
use Rattle.pe_text.specs.declared.outcome.ToolError.TheVariants.{Read, Write, Memory}
use Rattle.pe_parts.specs.AtHand.{can_decide_tables}
use Rattle.pe_parts.specs.Packed.{IsPacked, moved}
use Rattle.pe_reach.specs.Reach.{headers_end}
use Rattle.pe_reach.specs.Parts.{Part, HasPart, HasParts}
use Rattle.pe_reach.specs.Views.{names_under}
use Rattle.pe_reach.specs.declared.parts_reading.Parts.{Parts}

-- why reading failed, by the count of failures
abbrev pub FailsToRead : ℕ → ℕ → ToolError → Type 0
FailsToRead count count' Read = count' ≡ count + 1
FailsToRead count count' Write = ⊥
FailsToRead count count' Memory = count' ≡ count

-- the last read returned nothing, before an end
abbrev pub EndsEarly : ℕ → List Part → List Part → Type 0
EndsEarly end before now = (read : List Part) × (offset : ℕ) × (offset < end) × (now ≡ before ++ (read ++ record { offset = offset; bytes = [] } ∷ []))

-- the first bytes of a file of a length may be a beginning of it
abbrev pub can_begin : ℕ → ℕ → Bool
can_begin len count = nat_le len (2 ^ 32) && nat_le count len

-- they have all its headers, with none of faults 1 to 15
abbrev pub has_headers : ℕ → List ℕ → Bool
has_headers len begin =
    can_begin len (length begin)
    && (is_none (first_standing (head_tests 0 begin))
    && (nat_le (max (headers_end begin) (head_of begin).size_of_headers) (length begin)
    && is_none (first_standing (placing_tests 0 (head_of begin) len))))

-- the table of a directory of the headers begins in a section
abbrev pub begins_in : SectionHeader → Option Directory → Bool
begins_in s None = false
begins_in s (Some d) = holds d.rva s

-- the raw data of a section is wanted: it has some, and its export, import or base relocation table begins in it
abbrev pub is_wanted : Headers → SectionHeader → Bool
is_wanted h s =
    nat_lt 0 (rawlen s)
    && (begins_in s (slice_get h.directories.items 0)
    || (begins_in s (slice_get h.directories.items 1) || begins_in s (slice_get h.directories.items 5)))

-- it is read, unless the packed bytes, which go on at a place, would become longer than the file
abbrev pub is_packed : Headers → ℕ → ℕ → SectionHeader → Bool
is_packed h len place s = is_wanted h s && nat_le (rawlen s) (len - place)

-- where it is among the packed bytes, or 0, and where they go on
abbrev pub place_of : Headers → ℕ → ℕ → SectionHeader → ℕ
place_of h len place s = if is_packed h len place s then place else 0

abbrev pub next_place : Headers → ℕ → ℕ → SectionHeader → ℕ
next_place h len place s = if is_packed h len place s then place + rawlen s else place

-- the sections as they are packed, from a place on
abbrev pub packed_from : Headers → ℕ → ℕ → List SectionHeader → List SectionHeader
packed_from h len place [] = []
packed_from h len place (s ∷ ss) = moved s (place_of h len place s) ∷ packed_from h len (next_place h len place s) ss

-- where the packed bytes end, if the raw data of these sections goes on at a place
abbrev pub packed_end : Headers → ℕ → ℕ → List SectionHeader → ℕ
packed_end h len place [] = place
packed_end h len place (s ∷ ss) = packed_end h len (next_place h len place s) ss

-- how many bytes the parts of a file of a length have
abbrev pub packed_size : Headers → ℕ → ℕ
packed_size h len = packed_end h len h.size_of_headers h.sections.items

-- headers with other sections, and with no string table
abbrev pub with_sections : Headers → List SectionHeader → Headers
with_sections h sections = record h { sections = record { items = sections }; pointer_to_symbol_table = 0; number_of_symbols = 0 }

-- the headers under which the parts of a file of a length are packed: its headers come first
abbrev pub packed_headers : Headers → ℕ → Headers
packed_headers h len = with_sections h (packed_from h len h.size_of_headers h.sections.items)

-- a file of a length has all raw data of a section
abbrev pub IsRawInside : ℕ → SectionHeader → Type 0
IsRawInside len s = 0 < rawlen s → s.pointer_to_raw_data + rawlen s ≤ len

-- bytes begin each file of a length that has them first: it has these headers, which are among the bytes, and none of faults 1 to 15
pub record BeginAll (len : ℕ) (h : Headers) (bytes : List ℕ) : Type 0 where
  pub size : length bytes ≡ 4096
  pub within : 2 ^ 16 ≤ len
  pub small : len ≤ 2 ^ 32
  pub covers : h.size_of_headers ≤ 4096
  pub each : (file : List ℕ) → length file ≡ len → HasPart file (record { offset = 0; bytes = bytes }) → (head_of file ≡ h) × (first_standing (layout_tests 0 file) ≡ None)

-- these are parts of a file, which has none of faults 1 to 15
pub record AreOf {A : Type 0} (parts : Parts A) (file : List ℕ) : Type 0 where
  pub headers : head_of file ≡ parts.headers
  pub sound : first_standing (layout_tests 0 file) ≡ None
  pub packed : IsPacked file parts.headers parts.bytes.items parts.packed
  pub covers : parts.headers.size_of_headers ≤ length parts.bytes.items

-- what was read says that the first 4,096 bytes of the file have not all its headers, or these have a fault
pub record HasNoHeaders (len : ℕ) (before now : List Part) : Type 0 where
  pub read : List Part
  pub reads : now ≡ before ++ read
  pub refused : (file : List ℕ) → length file ≡ len → HasParts file read → has_headers len (take 4096 file) ≡ false

-- why the parts of a file of a length were not read
abbrev pub AreNotRead : ℕ → List Part → List Part → Type 0
AreNotRead len before now = (len < 2 ^ 16) ⊎ (EndsEarly len before now ⊎ HasNoHeaders len before now)

-- the parts were read, and do not decide the tables
pub record AreUndecided (len : ℕ) (before now : List Part) : Type 0 where
  pub read : List Part
  pub headers : Headers
  pub bytes : List ℕ
  pub reads : now ≡ before ++ read
  pub heads : (file : List ℕ) → length file ≡ len → HasParts file read → head_of file ≡ headers
  pub packed : (file : List ℕ) → length file ≡ len → HasParts file read → IsPacked file headers bytes (packed_headers headers len)
  pub size : length bytes ≡ packed_size headers len
  pub undecided : can_decide_tables 0 (packed_headers headers len) bytes ≡ false

-- the names of the sections, by the string table that the packed headers lead to
abbrev pub names_in : {A : Type 0} → Parts A → List (List ℕ)
names_in parts = map (λ section. section_name (image_strings parts.bytes.items parts.packed) section.name) parts.headers.sections.items

-- these are parts of each file of which they were, and have the names of its sections too
pub record AddNames {A : Type 0} (old new : Parts A) (file : List ℕ) : Type 0 where
  pub parts : AreOf old file → AreOf new file
  pub names : AreOf old file → names_in new ≡ names_under file (head_of file)
