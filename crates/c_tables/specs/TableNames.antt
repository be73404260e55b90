-- The names of values and flags, and of what tables beyond the profile have.
use Rattle.std.specs.Prelude.{ℕ, ◌==◌, List, Option, if◌then◌else◌}
use Rattle.pe_head.specs.Names.{name_in}
use Rattle.pe_records.specs.TableNames.{debug_type_names, load_field_names}
use Rattle.pe_records_c.specs.ValueNames.{value_name}

-- of kind 6 a type of debug data, of 7 a field of the load configuration, or one of the others
abbrev pub table_name : ℕ → ℕ → Option (List ℕ)
table_name kind value =
    if kind == 6 then name_in debug_type_names value else (if kind == 7 then name_in load_field_names value else value_name kind value)
