-- A file that has an image as it is laid out in memory, each section at its RVA, and not as a file has it, with its raw data at file
-- offsets.
use Rattle.std.specs.Prelude.{ℕ, ◌+◌, ◌-◌, ◌==◌, ◌&&◌, Bool, false, not, min, nat_le, nat_lt, List, length, Option, None, Some}
use Rattle.std.specs.List.{find, list_all}
use Rattle.pe_view.specs.Number.{part}
use Rattle.pe_head.specs.Section.{rawlen}
use Rattle.pe_head.specs.declared.headers.Headers.{Headers}
use Rattle.pe_head.specs.declared.section.SectionHeader.{SectionHeader}

-- the first section of which bytes come from the file
abbrev pub first_raw : List SectionHeader → Option SectionHeader
first_raw sections = find (λ (s : SectionHeader). not (rawlen s == 0)) sections

-- how many of these bytes come before the file offset that is its RVA
abbrev pub len_before : SectionHeader → ℕ
len_before s = min (rawlen s) (s.virtual_address - s.pointer_to_raw_data)

-- there are some, the file holds them, and they are zeros, as in memory between the headers and the first section
abbrev pub is_empty_before : List ℕ → SectionHeader → Bool
is_empty_before file s =
    nat_lt 0 (len_before s)
    && (nat_le (s.pointer_to_raw_data + len_before s) (length file)
    && list_all (λ byte. byte == 0) (part file s.pointer_to_raw_data (len_before s)))

abbrev pub is_empty_in : List ℕ → Option SectionHeader → Bool
is_empty_in file None = false
is_empty_in file (Some s) = is_empty_before file s

-- a file of this length, of which these bytes were read, has SizeOfImage bytes, and zeros where its first raw data is to be
abbrev pub is_as_in_memory : List ℕ → ℕ → Headers → Bool
is_as_in_memory file len h = (len == h.size_of_image) && is_empty_in file (first_raw h.sections.items)
