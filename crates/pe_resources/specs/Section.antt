-- What stands at an offset from the resource directory's RVA, as far as the file holds it in one run from there on.
use Rattle.std.specs.Prelude.{ℕ, ◌+◌, ◌-◌, ◌*◌, ◌/◌, Bool, nat_le, ◌&&◌, List, Option, map, min, option_map}
use Rattle.std.specs.List.{range_with_len}
use Rattle.pe_layout.specs.Image.{LaidOut, number_at}
use Rattle.pe_resources.specs.declared.entry.Entry.{Entry}

-- the RVA of the resource directory, from which offsets count
abbrev pub start_of : LaidOut → Option ℕ
start_of i = option_map (λ d. d.rva) (i.directory 2)

-- `len` bytes at an offset are held
abbrev pub is_held : LaidOut → ℕ → ℕ → ℕ → Bool
is_held i start offset len = nat_le (offset + len) (i.raw_left start)

-- how many entries the directory at an offset says to have: named ones, and ids
abbrev pub entry_count : LaidOut → ℕ → ℕ → ℕ
entry_count i start offset = number_at 2 i (start + (offset + 12)) + number_at 2 i (start + (offset + 14))

-- how many of them are held whole
abbrev pub whole_count : LaidOut → ℕ → ℕ → ℕ
whole_count i start offset = min (entry_count i start offset) ((i.raw_left start - offset - 16) / 8)

abbrev pub entry_at : LaidOut → ℕ → ℕ → ℕ → Entry
entry_at i start offset index = record {
  name = number_at 4 i (start + (offset + 16 + 8 * index));
  target = number_at 4 i (start + (offset + 16 + 8 * index + 4));
}

-- the entries of the directory at an offset, in table order
abbrev pub entries_at : LaidOut → ℕ → ℕ → ℕ → List Entry
entries_at i start offset count = map (entry_at i start offset) (range_with_len 0 count)

abbrev pub entries_of : LaidOut → ℕ → ℕ → List Entry
entries_of i start offset = entries_at i start offset (whole_count i start offset)

-- the text at an offset is held: two bytes of its length, and as many UTF-16 units
abbrev pub has_name : LaidOut → ℕ → ℕ → Bool
has_name i start offset = is_held i start offset 2 && is_held i start offset (2 + 2 * number_at 2 i (start + offset))
