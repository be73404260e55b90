-- The fields of the load configuration and of the CLR header as C has them.
use Rattle.std.specs.Prelude.{ℕ, List, [], map, Option, None, Some, is_some, unwrap_or}
use Rattle.pe_layout.specs.Image.{LaidOut}
use Rattle.pe_records.specs.ClrHeader.{clr_bytes, clr_fields}
use Rattle.pe_records.specs.LoadConfiguration.{load_bytes}
use Rattle.pe_records.specs.LoadFields.{load_fields}
use Rattle.pe_records.specs.Structure.{field_in}
use Rattle.pe_records.specs.declared.structure.Field.{Field}
use Rattle.c_tables.specs.declared.field.FieldRow.{FieldRow}

-- a field that the structure does not have is 0
abbrev pub field_row : Option ℕ → FieldRow
field_row value = record { value = unwrap_or value 0; is_present = is_some value }

-- the fields in the bytes of a structure, if there is one, where an address has `address` bytes
abbrev pub values_in : List Field → ℕ → Option (List ℕ) → List (Option ℕ)
values_in fields address None = []
values_in fields address (Some bytes) = map (field_in address bytes) fields

abbrev pub load_values : LaidOut → List (Option ℕ)
load_values i = values_in load_fields i.slot_width (load_bytes i)

abbrev pub clr_values : LaidOut → List (Option ℕ)
clr_values i = values_in clr_fields i.slot_width (clr_bytes i)
