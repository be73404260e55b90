-- The rules of the delay-load directory table, in the order of its findings: of the table, and then of each descriptor.
use Rattle.std.specs.Prelude.{ℕ, ◌+◌, ◌/◌, ◌==◌, not, is_none, nat_lt, List, [], ◌∷◌, ◌++◌, length, Option, None, Some, if◌then◌else◌}
use Rattle.pe_view.specs.declared.fault.Place.TheVariants.{Rva}
use Rattle.pe_view.specs.Faults.{Test, test}
use Rattle.pe_view.specs.Standing.{tests_at}
use Rattle.pe_head.specs.declared.directory.Directory.{Directory}
use Rattle.pe_layout.specs.Image.{LaidOut, is_inside}
use Rattle.pe_tables.specs.Imports.{Lookup, ends_table}
use Rattle.pe_records.specs.Records.{raw_bytes}
use Rattle.pe_delay.specs.Descriptors.{descriptors_at}
use Rattle.pe_delay.specs.Entries.{entry_at, entry_count, has_other_bits, lacks_name}
use Rattle.pe_delay.specs.Tables.{module_of, tables_of}
use Rattle.pe_delay.specs.declared.descriptor.DelayDescriptor.{DelayDescriptor}
use Rattle.pe_delay.specs.declared.tables.Tables.{Tables}

-- of an entry that is not 0, before which so many were read: its name, its bits, its slot, the number of entries
abbrev pub value_tests : LaidOut → Tables → ℕ → Lookup → List Test
value_tests i t read l =
    tests_at i.number (Rva l.rva)
    ((164, lacks_name i t l.value) ∷ (165, has_other_bits i t l.value) ∷ (166, not (is_inside i l.slot i.slot_width)) ∷ (167, read == 1048576) ∷ [])

-- of an entry
abbrev pub entry_tests : LaidOut → Tables → ℕ → Lookup → List Test
entry_tests i t read l =
    test 163 i.number (Rva l.rva) (not (is_inside i l.rva i.slot_width))
    ∷ (if ends_table i l then [] else value_tests i t read l)

-- of a descriptor, before which so many entries were read: its module's name, and the first entry that does not import
abbrev pub descriptor_tests : LaidOut → ℕ → DelayDescriptor → List Test
descriptor_tests i read d =
    test 162 i.number (Rva d.rva) (is_none (module_of i d))
    ∷ entry_tests i (tables_of i d) (read + entry_count i (tables_of i d) read) (entry_at i (tables_of i d) (entry_count i (tables_of i d) read))

abbrev pub descriptors_tests : LaidOut → ℕ → List DelayDescriptor → List Test
descriptors_tests i read [] = []
descriptors_tests i read (d ∷ ds) = descriptor_tests i read d ++ descriptors_tests i (read + entry_count i (tables_of i d) read) ds

-- no descriptor ends the table in the bytes that the file holds in one run; and those of each descriptor
abbrev pub delay_tests_at : LaidOut → Option Directory → List Test
delay_tests_at i None = []
delay_tests_at i (Some d) =
    test 161 i.number (Rva d.rva) (not (nat_lt (length (descriptors_at i (Some d))) (length (raw_bytes i d.rva) / 32)))
    ∷ descriptors_tests i 0 (descriptors_at i (Some d))

abbrev pub delay_tests : LaidOut → List Test
delay_tests i = delay_tests_at i (i.directory 13)
