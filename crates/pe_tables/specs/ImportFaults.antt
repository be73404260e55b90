-- The faults of an import table, in the order in which they are tested: of each descriptor, of its lookup entries.
use Rattle.std.specs.Prelude.{ℕ, ◌+◌, ◌/◌, ◌^◌, not, ◌&&◌, ◌==◌, List, [], ◌∷◌, ◌++◌, length, Option, Some, None, map, is_none, option_to_list, if◌then◌else◌}
use Rattle.pe_view.specs.Faults.{Test}
use Rattle.pe_head.specs.declared.directory.Directory.{Directory}
use Rattle.pe_layout.specs.Image.{LaidOut, is_inside, fault_at}
use Rattle.pe_ranges.specs.Ranges.{meets_any}
use Rattle.pe_tables.specs.Imports.{Import, Lookup, is_null, descriptors_of, lookups_of, is_ordinal, name_of, import_of, module_of, imports_in}
use Rattle.pe_tables.specs.declared.imports.Descriptor.{Descriptor}

-- the tests of the value of the entry at an RVA
abbrev pub key_tests : LaidOut → ℕ → ℕ → List Test
key_tests i rva value =
    record { stands = not (is_ordinal i value) && is_none (name_of i value); fault = fault_at 27 i rva }
    ∷ record { stands = not (is_ordinal i value) && not (value / 2 ^ 31 == 0); fault = fault_at 28 i rva }
    ∷ []

-- the bytes of an import's slot
abbrev pub range_of : ℕ → Import → ℕ × ℕ
range_of width import = (import.slot, width)

-- the tests of the slot of the entry at an RVA, after the imports `before`
abbrev pub slot_tests : LaidOut → List Import → ℕ → ℕ → List Test
slot_tests i before rva slot =
    record { stands = not (is_inside i slot i.slot_width); fault = fault_at 29 i rva }
    ∷ record { stands = meets_any slot i.slot_width (map (range_of i.slot_width) before); fault = fault_at 30 i rva }
    ∷ record { stands = length before == 1048576; fault = fault_at 31 i rva }
    ∷ []

abbrev pub lookup_tests : LaidOut → List Import → Lookup → List Test
lookup_tests i before l =
    record { stands = not (is_inside i l.rva i.slot_width); fault = fault_at 26 i l.rva }
    ∷ (if l.value == 0 then [] else key_tests i l.rva l.value ++ slot_tests i before l.rva l.slot)

unfoldable pub lookups_tests : LaidOut → List ℕ → List Import → List Lookup → List Test
lookups_tests i module_name before [] = []
lookups_tests i module_name before (l ∷ ls) =
    lookup_tests i before l ++ lookups_tests i module_name (before ++ option_to_list (import_of i module_name l)) ls

abbrev pub module_tests : LaidOut → Descriptor → List Test
module_tests i d =
    record { stands = is_none (i.text d.name); fault = fault_at 25 i (d.rva + 12) }
    ∷ record { stands = (d.lookup == 0) && not (d.time_stamp == 0); fault = fault_at 32 i d.rva }
    ∷ []

abbrev pub descriptor_tests : LaidOut → List Import → Descriptor → List Test
descriptor_tests i before d =
    record { stands = not (is_inside i d.rva 20); fault = fault_at 24 i d.rva }
    ∷ (if is_null d then [] else module_tests i d ++ lookups_tests i (module_of i d) before (lookups_of i d))

unfoldable pub descriptors_tests : LaidOut → List Import → List Descriptor → List Test
descriptors_tests i before [] = []
descriptors_tests i before (d ∷ ds) = descriptor_tests i before d ++ descriptors_tests i (before ++ imports_in i d) ds

abbrev pub import_tests_at : LaidOut → Option Directory → List Test
import_tests_at i None = []
import_tests_at i (Some d) = descriptors_tests i [] (descriptors_of i d.rva)

-- faults 24 to 32
abbrev pub import_tests : LaidOut → List Test
import_tests i = import_tests_at i (i.directory 1)
