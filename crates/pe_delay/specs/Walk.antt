-- A step of a walk over the entries of a name table, and what calls that add imports have added.
use Rattle.std.specs.Prelude.{◌≡◌, ◌≢◌, ℕ, ◌+◌, ◌*◌, ◌<◌, ◌≤◌, List, [], ◌∷◌, ◌++◌, Option, None, Some, Result, Ok, Err, if◌then◌else◌}
use Rattle.pe_layout.specs.Image.{LaidOut}
use Rattle.pe_tables.specs.Imports as table
use Rattle.pe_tables.specs.Imports.{Lookup, ends_table}
use Rattle.pe_tables.specs.Key.{Key}
use Rattle.pe_tables.specs.ImportView.{import_view}
use Rattle.pe_tables.specs.declared.import.Import.{Import}
use Rattle.pe_delay.specs.Entries.{imports_by, is_placed, key_in, lacks_name}
use Rattle.pe_delay.specs.declared.tables.Tables.{Tables}

-- the value of an entry that does not end its table
abbrev pub value_of : LaidOut → Lookup → Option ℕ
value_of i l = if ends_table i l then None else Some l.value

-- that of one whose slot is there too, and which has no other bits
abbrev pub placed_value : LaidOut → Tables → Lookup → Option ℕ
placed_value i t l = if is_placed i t l then Some l.value else None

-- what an entry with this value imports, if its name is there
abbrev pub found_key : LaidOut → Tables → ℕ → Option Key
found_key i t value = if lacks_name i t value then None else Some (key_in i t value)

-- the import of entry k of so many, if that is one and all before it are
abbrev pub IsNext : LaidOut → Tables → List ℕ → ℕ → ℕ → Option Import → Type 0
IsNext i t module_name most k None = imports_by i t module_name most k ≡ []
IsNext i t module_name most k (Some x) =
    (k < most) × (t.names + i.slot_width * k + i.slot_width ≤ i.size)
    × (imports_by i t module_name most k ≡ import_view x ∷ imports_by i t module_name most (k + 1))

-- a call that adds imports: it has added these, or it is out of memory, and there is one to add
abbrev pub AddsImports : {E : Type 0} → List table.Import → List table.Import → List table.Import → Result (Unit {0}) E → Type 0
AddsImports more old new (Ok done) = new ≡ old ++ more
AddsImports more old new (Err error) = more ≢ []
