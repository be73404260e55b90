-- The debug directory ("PE Format", Debug Directory).
use Rattle.std.specs.Prelude.{ℕ, ◌+◌, ◌==◌, ◌||◌, nat_lt, List, length, Option, None, Some, if◌then◌else◌}
use Rattle.pe_view.specs.Number.{part}
use Rattle.pe_records.specs.Records.{number}
use Rattle.pe_records.specs.declared.debug.DebugEntry.{DebugEntry}

-- the entry at an offset of the table
abbrev pub debug_entry_at : List ℕ → ℕ → DebugEntry
debug_entry_at bytes offset = record {
  characteristics = number 4 bytes offset;
  time_date_stamp = number 4 bytes (offset + 4);
  major_version = number 2 bytes (offset + 8);
  minor_version = number 2 bytes (offset + 10);
  kind = number 4 bytes (offset + 12);
  size_of_data = number 4 bytes (offset + 16);
  address_of_raw_data = number 4 bytes (offset + 20);
  pointer_to_raw_data = number 4 bytes (offset + 24);
}

-- the data of an entry, if it has a pointer to bytes that the file holds
abbrev pub data_of : List ℕ → DebugEntry → Option (List ℕ)
data_of file e =
    if (e.pointer_to_raw_data == 0) || nat_lt (length file) (e.pointer_to_raw_data + e.size_of_data) then None
    else Some (part file e.pointer_to_raw_data e.size_of_data)
