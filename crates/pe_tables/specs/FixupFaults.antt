-- The faults of a base relocation table, in the order in which they are tested: of the directory, of each block, of its entries.
use Rattle.std.specs.Prelude.{ℕ, ◌+◌, ◌%◌, Bool, not, ◌||◌, ◌==◌, List, [], ◌∷◌, ◌++◌, Option, Some, None, nat_lt, map}
use Rattle.std.specs.Prelude.{option_to_list}
use Rattle.pe_view.specs.Faults.{Test}
use Rattle.pe_head.specs.declared.directory.Directory.{Directory}
use Rattle.pe_layout.specs.Image.{LaidOut, is_inside, fault_at}
use Rattle.pe_ranges.specs.Ranges.{meets_any}
use Rattle.pe_tables.specs.Fixups.{Block, Entry, blocks_of, entries_of, fixup_of, fixups_in, is_known, width_of, range_of, slot_range}
use Rattle.pe_tables.specs.declared.fixups.Fixup.{Fixup}

-- the tests of a field, after the fixups `before`, with the bytes of the image's slots
abbrev pub field_tests : LaidOut → List (ℕ × ℕ) → List Fixup → Option Fixup → List Test
field_tests i slots before None = []
field_tests i slots before (Some f) =
    record { stands = not (is_inside i f.field (width_of f.kind)); fault = fault_at 36 i f.entry }
    ∷ record { stands = meets_any f.field (width_of f.kind) (map range_of before); fault = fault_at 37 i f.entry }
    ∷ record { stands = meets_any f.field (width_of f.kind) slots; fault = fault_at 38 i f.entry }
    ∷ []

abbrev pub entry_tests : LaidOut → List (ℕ × ℕ) → List Fixup → Entry → List Test
entry_tests i slots before e =
    record { stands = not (is_known e.kind); fault = fault_at 35 i e.rva }
    ∷ field_tests i slots before (fixup_of e)

unfoldable pub entries_tests : LaidOut → List (ℕ × ℕ) → List Fixup → List Entry → List Test
entries_tests i slots before [] = []
entries_tests i slots before (e ∷ es) = entry_tests i slots before e ++ entries_tests i slots (before ++ option_to_list (fixup_of e)) es

-- a BlockSize that is odd, too small for the block's header, or past the table's end
abbrev pub is_bad_size : ℕ → ℕ → ℕ → Bool
is_bad_size end rva size = (size % 2 == 1) || (nat_lt size 8 || nat_lt end (rva + size))

abbrev pub size_test : LaidOut → ℕ → Block → Test
size_test i end b = record {
  stands = is_bad_size end b.rva b.size;
  fault = fault_at 33 i b.rva;
}

unfoldable pub blocks_tests : LaidOut → List (ℕ × ℕ) → ℕ → List Fixup → List Block → List Test
blocks_tests i slots end before [] = []
blocks_tests i slots end before (b ∷ bs) =
    size_test i end b ∷ (entries_tests i slots before (entries_of i b)
    ++ blocks_tests i slots end (before ++ fixups_in i b) bs)

abbrev pub fixup_tests_at : LaidOut → List (ℕ × ℕ) → Option Directory → List Test
fixup_tests_at i slots None = []
fixup_tests_at i slots (Some d) =
    record { stands = not (is_inside i d.rva d.size); fault = fault_at 34 i d.rva }
    ∷ blocks_tests i slots (d.rva + d.size) [] (blocks_of i d)

-- faults 33 to 38, of an image and the slots of its imports
abbrev pub fixup_tests : LaidOut → List ℕ → List Test
fixup_tests i slots = fixup_tests_at i (map (slot_range i.slot_width) slots) (i.directory 5)
