-- The entries of a delay import name table, which are those of an import lookup table ("PE Format", The .idata Section; Delay Import
-- Name Table). Each has a slot of its own in the delay import address table.
use Rattle.std.specs.Prelude.{ℕ, ◌+◌, ◌-◌, ◌*◌, ◌/◌, ◌%◌, ◌^◌, ◌==◌, ◌&&◌, Bool, not, min, is_none, List, [], map, take_while, length, Option, Some, if◌then◌else◌}
use Rattle.std.specs.List.{range_with_len}
use Rattle.std.specs.Option.{option_map, option_and_then, unwrap_or}
use Rattle.pe_layout.specs.Image.{LaidOut, is_inside}
use Rattle.pe_tables.specs.Imports.{Import, Lookup, lookup_at, ends_table, is_ordinal}
use Rattle.pe_tables.specs.Key.{Key, Ordinal, Name}
use Rattle.pe_records.specs.Address.{rva_of}
use Rattle.pe_delay.specs.declared.tables.Tables.{Tables}

-- entry k
abbrev pub entry_at : LaidOut → Tables → ℕ → Lookup
entry_at i t k = lookup_at i (t.names + i.slot_width * k) (t.addresses + i.slot_width * k)

-- where the name of an entry with this value is, after its hint of two bytes: the value holds an RVA in 31 bits, or an address
abbrev pub name_rva : LaidOut → Tables → ℕ → Option ℕ
name_rva i t value = if t.has_rvas then Some (value % 2 ^ 31 + 2) else option_map (λ rva. rva + 2) (rva_of i value)

abbrev pub name_in : LaidOut → Tables → ℕ → Option (List ℕ)
name_in i t value = option_and_then i.text (name_rva i t value)

-- the entry is to hold a name, which is not there
abbrev pub lacks_name : LaidOut → Tables → ℕ → Bool
lacks_name i t value = not (is_ordinal i value) && is_none (name_in i t value)

-- bits that are to be 0 are not: those between an ordinal of 16 bits and the top bit, or above the RVA of a name
abbrev pub has_other_bits : LaidOut → Tables → ℕ → Bool
has_other_bits i t value =
    if is_ordinal i value then not (value % 2 ^ (8 * i.slot_width - 1) / 2 ^ 16 == 0)
    else t.has_rvas && not (value / 2 ^ 31 == 0)

-- an entry does not end its table, its slot is there, and no other bits are set
abbrev pub is_placed : LaidOut → Tables → Lookup → Bool
is_placed i t l = not (ends_table i l) && (is_inside i l.slot i.slot_width && not (has_other_bits i t l.value))

-- an entry imports: its name is there too
abbrev pub is_import : LaidOut → Tables → Lookup → Bool
is_import i t l = is_placed i t l && not (lacks_name i t l.value)

abbrev pub key_in : LaidOut → Tables → ℕ → Key
key_in i t value = if is_ordinal i value then Ordinal (value % 2 ^ 16) else Name (unwrap_or (name_in i t value) [])

-- what an entry imports from a module
abbrev pub import_by : LaidOut → Tables → List ℕ → Lookup → Import
import_by i t module_name l = record { module_name = module_name; key = key_in i t l.value; slot = l.slot }

-- the most entries that are read of a table where so many were read before: 1,048,576 of all, and no more than the image has bytes
abbrev pub most_after : LaidOut → ℕ → ℕ
most_after i read = min (1048576 - read) i.size

-- from entry k on, those before the first that does not import, of so many
abbrev pub entries_from : LaidOut → Tables → ℕ → ℕ → List Lookup
entries_from i t most k = take_while (is_import i t) (map (entry_at i t) (range_with_len k (most - k)))

-- what they import from a module
abbrev pub imports_by : LaidOut → Tables → List ℕ → ℕ → ℕ → List Import
imports_by i t module_name most k = map (import_by i t module_name) (entries_from i t most k)

-- the number of them in a whole table
abbrev pub entry_count : LaidOut → Tables → ℕ → ℕ
entry_count i t read = length (entries_from i t (most_after i read) 0)
