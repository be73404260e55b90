-- What an import table names, by RVA ("PE Format", The .idata Section).
use Rattle.std.specs.Prelude.{◌≡◌, ◌≢◌, ℕ, ◌+◌, ◌*◌, ◌<◌, ◌≤◌, List, map, ◌==◌, ◌⊎◌, [], if◌then◌else◌, unwrap_or, IsSome, false}
use Rattle.std.specs.List.{flat_map, range_with_len}
use Rattle.pe_head.specs.declared.directory.Directory.{Directory}
use Rattle.pe_layout.specs.Image.{LaidOut, number_at}
use Rattle.pe_tables.specs.Imports.{Import, is_ordinal, name_of, key_of}

-- the RVA of descriptor j of the list at an RVA
abbrev pub descriptor_rva : ℕ → ℕ → ℕ
descriptor_rva list j = list + 20 * j

-- the RVAs in the descriptor at an RVA
abbrev pub lookup_rva : LaidOut → ℕ → ℕ
lookup_rva i rva = number_at 4 i rva

abbrev pub name_rva : LaidOut → ℕ → ℕ
name_rva i rva = number_at 4 i (rva + 12)

abbrev pub addresses_rva : LaidOut → ℕ → ℕ
addresses_rva i rva = number_at 4 i (rva + 16)

-- its lookup table: the address table if it has no other
abbrev pub table_rva : LaidOut → ℕ → ℕ
table_rva i rva = if lookup_rva i rva == 0 then addresses_rva i rva else lookup_rva i rva

-- a descriptor that does not end the list is at an RVA of the image
abbrev pub HasDescriptor : LaidOut → ℕ → Type 0
HasDescriptor i rva = (rva + 20 ≤ i.size) × (name_rva i rva ≢ 0) × (addresses_rva i rva ≢ 0)

-- an entry that does not end its table is at an RVA of the image
abbrev pub HasEntry : LaidOut → ℕ → Type 0
HasEntry i rva = (rva + i.slot_width ≤ i.size) × (number_at i.slot_width i rva ≢ 0)

-- the list at an RVA has a descriptor j: up to it no descriptor ends the list
abbrev pub IsInList : LaidOut → ℕ → ℕ → Type 0
IsInList i list j = (m : ℕ) → m ≤ j → HasDescriptor i (descriptor_rva list m)

-- the table at an RVA has an entry k: up to it no entry ends the table
abbrev pub IsInTable : LaidOut → ℕ → ℕ → Type 0
IsInTable i table k = (m : ℕ) → m ≤ k → HasEntry i (table + i.slot_width * m)

-- what entry k of the descriptor at an RVA imports
abbrev pub import_at : LaidOut → ℕ → ℕ → Import
import_at i rva k = record {
  module_name = unwrap_or (i.text (name_rva i rva)) [];
  key = key_of i (number_at i.slot_width i (table_rva i rva + i.slot_width * k));
  slot = addresses_rva i rva + i.slot_width * k;
}

-- some entry k of some descriptor j imports it
abbrev pub IsImported : LaidOut → Directory → Import → Type 0
IsImported i d import =
    (j : ℕ) × (k : ℕ)
    × IsInList i d.rva j
    × IsInTable i (table_rva i (descriptor_rva d.rva j)) k
    × (import ≡ import_at i (descriptor_rva d.rva j) k)

-- slots of so many bytes share none
abbrev pub IsApart : ℕ → Import → Import → Type 0
IsApart width a b = (a.slot + width ≤ b.slot) ⊎ (b.slot + width ≤ a.slot)

-- the strings that entry k of the descriptor at an RVA names are there: its module's name, and its own after a hint, unless it
-- holds an ordinal
abbrev pub HasTexts : LaidOut → ℕ → ℕ → Type 0
HasTexts i rva k =
    IsSome (i.text (name_rva i rva))
    × (is_ordinal i (number_at i.slot_width i (table_rva i rva + i.slot_width * k)) ≡ false
    → IsSome (name_of i (number_at i.slot_width i (table_rva i rva + i.slot_width * k))))

-- the list at an RVA has so many descriptors, and no more
abbrev pub HasDescriptors : LaidOut → ℕ → ℕ → Type 0
HasDescriptors i list count = ((j : ℕ) → j < count → HasDescriptor i (descriptor_rva list j)) × ¬ (HasDescriptor i (descriptor_rva list count))

-- the table at an RVA has so many entries, and no more
abbrev pub HasEntries : LaidOut → ℕ → ℕ → Type 0
HasEntries i table count = ((k : ℕ) → k < count → HasEntry i (table + i.slot_width * k)) × ¬ (HasEntry i (table + i.slot_width * count))

-- the imports of so many descriptors of the list at an RVA, by descriptor, and of each by entry; descriptor j has counts j of them
abbrev pub imports_in_order : LaidOut → ℕ → ℕ → (ℕ → ℕ) → List Import
imports_in_order i list count counts =
    flat_map (λ j. map (import_at i (descriptor_rva list j)) (range_with_len 0 (counts j))) (range_with_len 0 count)
