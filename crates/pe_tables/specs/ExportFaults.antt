-- The faults of an export table, in the order in which they are tested: of the directory, of each name, of each entry of the export
-- address table.
use Rattle.std.specs.Prelude.{◌≡◌, ℕ, ◌+◌, ◌*◌, ◌^◌, ◌<◌, ◌≤◌, Bool, not, ◌&&◌, ◌==◌, List, [], ◌∷◌, ◌++◌, Option, Some, None, nat_lt, nat_le, is_none}
use Rattle.std.specs.List.{flat_map, range_with_len}
use Rattle.pe_view.specs.Faults.{Test, first_standing}
use Rattle.pe_head.specs.declared.directory.Directory.{Directory}
use Rattle.pe_layout.specs.Image.{LaidOut, is_inside, fault_at}
use Rattle.pe_tables.specs.declared.export_table.Table.{Table}
use Rattle.pe_tables.specs.Exports.{table_at, entry, name_text, name_entry}
use Rattle.pe_tables.specs.Forwarder.{is_forwarder, forwarder_at}

-- `count` entries of `width` bytes at an RVA, if there are any, are not all in the image
abbrev pub is_outside : LaidOut → ℕ → ℕ → ℕ → Bool
is_outside i rva width count = not (count == 0) && not (is_inside i rva (width * count))

abbrev pub directory_tests : LaidOut → Table → List Test
directory_tests i t =
    record { stands = not (is_inside i t.rva 40); fault = fault_at 16 i t.rva }
    ∷ record { stands = is_outside i t.addresses 4 t.entry_count; fault = fault_at 17 i (t.rva + 28) }
    ∷ record { stands = is_outside i t.names 4 t.name_count; fault = fault_at 17 i (t.rva + 32) }
    ∷ record { stands = is_outside i t.ordinals 2 t.name_count; fault = fault_at 17 i (t.rva + 36) }
    ∷ record { stands = nat_lt 65536 t.entry_count; fault = fault_at 18 i (t.rva + 20) }
    ∷ record { stands = nat_lt 65536 t.name_count; fault = fault_at 18 i (t.rva + 24) }
    ∷ []

abbrev pub name_tests : LaidOut → Table → ℕ → List Test
name_tests i t k =
    record { stands = is_none (name_text i t k); fault = fault_at 19 i (t.names + 4 * k) }
    ∷ record { stands = nat_le t.entry_count (name_entry i t k); fault = fault_at 20 i (t.ordinals + 2 * k) }
    ∷ []

-- the tests of a value of the export address table, in an entry at an RVA
abbrev pub value_tests : LaidOut → Directory → ℕ → ℕ → List Test
value_tests i d rva value =
    record { stands = not (value == 0) && (not (is_forwarder d value) && not (is_inside i value 1)); fault = fault_at 21 i rva }
    ∷ record { stands = not (value == 0) && (is_forwarder d value && is_none (forwarder_at i value)); fault = fault_at 22 i rva }
    ∷ []

abbrev pub entry_tests : LaidOut → Directory → Table → ℕ → List Test
entry_tests i d t k = value_tests i d (t.addresses + 4 * k) (entry i t k)

-- the same of each of the first n
unfoldable pub each_tests : (ℕ → List Test) → ℕ → List Test
each_tests tests n = flat_map tests (range_with_len 0 n)

abbrev pub table_tests : LaidOut → Directory → Table → List Test
table_tests i d t =
    directory_tests i t
    ++ (each_tests (name_tests i t) t.name_count
    ++ each_tests (entry_tests i d t) t.entry_count)

abbrev pub export_tests_at : LaidOut → Option Directory → List Test
export_tests_at i None = []
export_tests_at i (Some d) = table_tests i d (table_at i d.rva)

-- faults 16 to 22
abbrev pub export_tests : LaidOut → List Test
export_tests i = export_tests_at i (i.directory 0)

-- a table without faults 16 to 18: its own tables, unless they are empty, lie in the image, which has at most 2^31 bytes
pub record IsInside (i : LaidOut) (t : Table) : Type 0 where
  pub small : i.size ≤ 2 ^ 31
  pub addresses : 0 < t.entry_count → t.addresses + 4 * t.entry_count ≤ i.size
  pub names : 0 < t.name_count → t.names + 4 * t.name_count ≤ i.size
  pub ordinals : 0 < t.name_count → t.ordinals + 2 * t.name_count ≤ i.size
  pub few_entries : t.entry_count ≤ 65536
  pub few_names : t.name_count ≤ 65536

-- an export table with none of faults 16 to 18, and with a name or an entry
abbrev pub HasRows : LaidOut → Option Directory → Type 0
HasRows i None = ⊥
HasRows i (Some d) = let t = table_at i d.rva in (first_standing (directory_tests i t) ≡ None) × (0 < t.name_count + t.entry_count)
