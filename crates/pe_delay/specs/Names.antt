-- Where the names of delay-loaded imports are ("PE Format", Delay Import Name Table; Hint/Name Table).
use Rattle.std.specs.Prelude.{ℕ, ◌+◌, List, [], ◌∷◌, ◌++◌, map, if◌then◌else◌}
use Rattle.std.specs.Option.{unwrap_or}
use Rattle.pe_layout.specs.Image.{LaidOut}
use Rattle.pe_tables.specs.Imports.{Lookup, is_ordinal}
use Rattle.pe_delay.specs.Descriptors.{delay_descriptors}
use Rattle.pe_delay.specs.Entries.{entries_from, entry_count, most_after, name_rva}
use Rattle.pe_delay.specs.Imports.{is_whole}
use Rattle.pe_delay.specs.Tables.{tables_of}
use Rattle.pe_delay.specs.declared.descriptor.DelayDescriptor.{DelayDescriptor}
use Rattle.pe_delay.specs.declared.tables.Tables.{Tables}

-- the RVA of the name of an entry, or 0 if it holds an ordinal
abbrev pub name_rva_in : LaidOut → Tables → Lookup → ℕ
name_rva_in i t l = if is_ordinal i l.value then 0 else unwrap_or (name_rva i t l.value) 0

-- from entry k on, those of the entries before the first that does not import, of so many
abbrev pub names_by : LaidOut → Tables → ℕ → ℕ → List ℕ
names_by i t most k = map (name_rva_in i t) (entries_from i t most k)

-- those of a descriptor, before which so many entries were read; one that is not whole has none
abbrev pub names_in : LaidOut → ℕ → DelayDescriptor → List ℕ
names_in i read d = if is_whole i read d then names_by i (tables_of i d) (most_after i read) 0 else []

abbrev pub names_after : LaidOut → ℕ → List DelayDescriptor → List ℕ
names_after i read [] = []
names_after i read (d ∷ ds) = names_in i read d ++ names_after i (read + entry_count i (tables_of i d) read) ds

-- the RVAs of the names of an image's delay-loaded imports, in table order
abbrev pub delay_names_of : LaidOut → List ℕ
delay_names_of i = names_after i 0 (delay_descriptors i)
