-- The RVAs of the names of an image's imports ("PE Format", Hint/Name Table).
use Rattle.std.specs.Prelude.{◌≡◌, ℕ, ◌+◌, ◌%◌, ◌^◌, List, [], Option, Some, None, slice_get, if◌then◌else◌, unwrap_or}
use Rattle.std.specs.List.{filter_map, flat_map}
use Rattle.pe_head.specs.declared.directory.Directory.{Directory}
use Rattle.pe_layout.specs.Image.{LaidOut}
use Rattle.pe_tables.specs.Key.{Name}
use Rattle.pe_tables.specs.Imports.{Import, Lookup, is_ordinal, ends_table, ends_list, lookups_of, descriptors_of}
use Rattle.pe_tables.specs.declared.imports.Descriptor.{Descriptor}

-- the RVA of the name after its hint of two bytes, or 0 for an ordinal
abbrev pub name_rva_of : LaidOut → ℕ → ℕ
name_rva_of i value = if is_ordinal i value then 0 else value % 2 ^ 31 + 2

-- that of an entry which does not end its table
abbrev pub name_of_lookup : LaidOut → Lookup → Option ℕ
name_of_lookup i l = if ends_table i l then None else Some (name_rva_of i l.value)

abbrev pub names_in : LaidOut → Descriptor → List ℕ
names_in i d = if ends_list i d then [] else filter_map (name_of_lookup i) (lookups_of i d)

abbrev pub import_names_at : LaidOut → ℕ → List ℕ
import_names_at i rva = flat_map (names_in i) (descriptors_of i rva)

abbrev pub import_names_in : LaidOut → Option Directory → List ℕ
import_names_in i None = []
import_names_in i (Some d) = import_names_at i d.rva

-- the RVAs of the names of an image's imports, in table order
abbrev pub import_names_of : LaidOut → List ℕ
import_names_of i = import_names_in i (i.directory 1)

-- an import by name has the string at an RVA
abbrev pub IsNamedAt : LaidOut → ℕ → Import → Type 0
IsNamedAt i rva import = (name : List ℕ) → import.key ≡ Name name → name ≡ unwrap_or (i.text rva) []

-- each of these imports that has an RVA has the string there
abbrev pub AreNamedAt : LaidOut → List ℕ → List Import → Type 0
AreNamedAt i rvas imports = (k : ℕ) (rva : ℕ) (import : Import) → slice_get rvas k ≡ Some rva → slice_get imports k ≡ Some import → IsNamedAt i rva import
