-- Where the string table of an image is among parts of its file, and why it is not.
use Rattle.std.specs.Prelude.{Bool, not, Option, ℕ, ◌≡◌, ◌+◌, ◌^◌, ◌<◌, ◌≤◌, ◌⊎◌, max, List, ◌++◌, length, take}
use Rattle.pe_head.specs.declared.headers.Headers.{Headers}
use Rattle.pe_head.specs.declared.section.SectionHeader.{SectionHeader}
use Rattle.coff_read.specs.ImageNames.{section_name, strings_start, strings_size}
use Rattle.coff_read.specs.Names.{begins_with_slash}
use Rattle.pe_reach.specs.declared.parts_reading.Parts.{Parts}
use Rattle.pe_reach.specs.Parts.{Part, HasParts}
use Rattle.pe_reach.specs.PartsRead.{EndsEarly}

-- the headers with the string table at an offset of other bytes, or with none for 0
abbrev pub with_strings : Headers → ℕ → Headers
with_strings h pointer = record h { pointer_to_symbol_table = pointer; number_of_symbols = 0 }

-- the name of a section, where the image has this string table, is no field that leads to a string
abbrev pub is_named : Option (List ℕ) → SectionHeader → Bool
is_named table s = not (begins_with_slash (section_name table s.name))

-- parts of a file of a length with a string table behind them, or none: they are as they were, and do not become longer than the file
pub record AreWithNames {A : Type 0} (len : ℕ) (old new : Parts A) : Type 0 where
  pub packed : new.packed ≡ with_strings old.packed new.packed.pointer_to_symbol_table
  pub bytes : take (length old.bytes.items) new.bytes.items ≡ old.bytes.items
  pub size : length new.bytes.items ≤ max (length old.bytes.items) len

-- what was read says that the parts, which have so many bytes, would become longer than the file with the string table behind them
pub record AreTooLong (len : ℕ) (h : Headers) (place : ℕ) (before now : List Part) : Type 0 where
  pub read : List Part
  pub reads : now ≡ before ++ read
  pub longer : (file : List ℕ) → length file ≡ len → HasParts file read → len < place + max 4 (strings_size file h)

-- why it was not put there: the file ended early, there are no parts, an offset has more than 32 bits, or they are too long
abbrev pub AreNotNamed : ℕ → Headers → ℕ → List Part → List Part → Type 0
AreNotNamed len h place before now =
    EndsEarly len before now ⊎ ((place ≡ 0) ⊎ ((2 ^ 32 ≤ max place (strings_start h)) ⊎ AreTooLong len h place before now))
