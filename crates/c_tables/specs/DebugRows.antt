-- The debug directory as C has it.
use Rattle.std.specs.Prelude.{List}
use Rattle.pe_layout.specs.Image.{LaidOut}
use Rattle.pe_records.specs.Debug.{debug_entry_at}
use Rattle.pe_records.specs.Records.{records_in, table_bytes}
use Rattle.pe_records.specs.declared.debug.DebugEntry.{DebugEntry}
use Rattle.c_tables.specs.declared.debug.DebugRow.{DebugRow}

abbrev pub debug_entries : LaidOut → List DebugEntry
debug_entries i = records_in debug_entry_at 28 (table_bytes i (i.directory 6))

abbrev pub debug_row : DebugEntry → DebugRow
debug_row e = record {
  characteristics = e.characteristics;
  time_date_stamp = e.time_date_stamp;
  major_version = e.major_version;
  minor_version = e.minor_version;
  kind = e.kind;
  size_of_data = e.size_of_data;
  address_of_raw_data = e.address_of_raw_data;
  pointer_to_raw_data = e.pointer_to_raw_data;
}
