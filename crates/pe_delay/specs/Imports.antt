-- The delay-loaded imports of an image, in table order.
use Rattle.std.specs.Prelude.{ℕ, ◌+◌, ◌==◌, ◌&&◌, Bool, is_some, List, [], ◌∷◌, ◌++◌, if◌then◌else◌}
use Rattle.std.specs.Option.{unwrap_or}
use Rattle.pe_layout.specs.Image.{LaidOut, is_inside}
use Rattle.pe_tables.specs.Imports.{Import, Lookup}
use Rattle.pe_delay.specs.Descriptors.{delay_descriptors}
use Rattle.pe_delay.specs.Entries.{entry_at, entry_count, imports_by, most_after}
use Rattle.pe_delay.specs.Tables.{module_of, tables_of}
use Rattle.pe_delay.specs.declared.descriptor.DelayDescriptor.{DelayDescriptor}

-- what the entries of a descriptor import, before which so many entries were read
abbrev pub imports_from : LaidOut → ℕ → DelayDescriptor → List Import
imports_from i read d = imports_by i (tables_of i d) (unwrap_or (module_of i d) []) (most_after i read) 0

-- an entry of 0 ends the table after so many
abbrev pub is_ended_by : LaidOut → Lookup → Bool
is_ended_by i l = is_inside i l.rva i.slot_width && (l.value == 0)

-- the module has its name, and an entry of 0 ends the entries that import
abbrev pub is_whole : LaidOut → ℕ → DelayDescriptor → Bool
is_whole i read d = is_some (module_of i d) && is_ended_by i (entry_at i (tables_of i d) (entry_count i (tables_of i d) read))

-- the imports of a descriptor, before which so many entries were read; one that is not whole has none
abbrev pub imports_in : LaidOut → ℕ → DelayDescriptor → List Import
imports_in i read d = if is_whole i read d then imports_from i read d else []

abbrev pub imports_after : LaidOut → ℕ → List DelayDescriptor → List Import
imports_after i read [] = []
imports_after i read (d ∷ ds) = imports_in i read d ++ imports_after i (read + entry_count i (tables_of i d) read) ds

abbrev pub delay_imports_of : LaidOut → List Import
delay_imports_of i = imports_after i 0 (delay_descriptors i)
