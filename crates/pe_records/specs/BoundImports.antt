-- The bound import table ("PE Format", Bound Import Table): records of 8 bytes, up to one of zeros.
use Rattle.std.specs.Prelude.{ℕ, ◌+◌, ◌*◌, List, map}
use Rattle.std.specs.List.{range_with_len}
use Rattle.pe_records.specs.Callbacks.{callback_count}
use Rattle.pe_records.specs.Records.{number}
use Rattle.pe_records.specs.declared.bound_imports.BoundImport.{BoundImport}

-- record k of a table
abbrev pub bound_import_at : List ℕ → ℕ → BoundImport
bound_import_at bytes k = record {
  time_date_stamp = number 4 bytes (8 * k);
  offset_module_name = number 2 bytes (8 * k + 4);
  number_of_module_forwarder_refs = number 2 bytes (8 * k + 6);
}

-- those before the first of zeros
abbrev pub bound_imports_in : List ℕ → List BoundImport
bound_imports_in bytes = map (bound_import_at bytes) (range_with_len 0 (callback_count 8 bytes))
