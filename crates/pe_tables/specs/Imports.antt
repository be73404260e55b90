-- The import table ("PE Format", The .idata Section): descriptors, each of which names a module, a lookup table, and an address
-- table of as many slots.
use Rattle.std.specs.Prelude.{ℕ, zero, suc, ◌+◌, ◌-◌, ◌*◌, ◌/◌, ◌%◌, ◌^◌, Bool, not, ◌||◌, ◌==◌, List, [], ◌∷◌, Option, Some, None, if◌then◌else◌, unwrap_or}
use Rattle.std.specs.List.{filter_map, flat_map}
use Rattle.pe_head.specs.declared.directory.Directory.{Directory}
use Rattle.pe_layout.specs.Image.{LaidOut, number_at, is_inside}
use Rattle.pe_tables.specs.Key.{Key, Ordinal, Name}
use Rattle.pe_tables.specs.declared.imports.Descriptor.{Descriptor}

-- the module, the key, and the slot for the export's address
pub record Import : Type 0 where
  pub module_name : List ℕ
  pub key : Key
  pub slot : ℕ

abbrev pub descriptor_at : LaidOut → ℕ → Descriptor
descriptor_at i rva = record {
  rva = rva;
  lookup = number_at 4 i rva;
  time_stamp = number_at 4 i (rva + 4);
  name = number_at 4 i (rva + 12);
  addresses = number_at 4 i (rva + 16);
}

-- a descriptor without a name or without slots
abbrev pub is_null : Descriptor → Bool
is_null d = (d.name == 0) || (d.addresses == 0)

-- the list ends with such a one, or one that is not in the image
abbrev pub ends_list : LaidOut → Descriptor → Bool
ends_list i d = not (is_inside i d.rva 20) || is_null d

-- the descriptors from an RVA on, with the one that ends the list: the first and up to n more
abbrev pub descriptors_from : ℕ → LaidOut → ℕ → List Descriptor
descriptors_from zero i rva = descriptor_at i rva ∷ []
descriptors_from (suc n) i rva =
    descriptor_at i rva
    ∷ (if ends_list i (descriptor_at i rva) then [] else descriptors_from n i (rva + 20))

-- no more than the image has bytes
abbrev pub descriptors_of : LaidOut → ℕ → List Descriptor
descriptors_of i rva = descriptors_from i.size i rva

-- the lookup table: the address table if there is none
abbrev pub lookup_table : Descriptor → ℕ
lookup_table d = if d.lookup == 0 then d.addresses else d.lookup

-- an entry of a lookup table, and its slot
pub record Lookup : Type 0 where
  pub rva : ℕ
  pub value : ℕ
  pub slot : ℕ

abbrev pub lookup_at : LaidOut → ℕ → ℕ → Lookup
lookup_at i rva slot = record { rva = rva; value = number_at i.slot_width i rva; slot = slot }

-- the table ends with an entry that is 0, or is not in the image
abbrev pub ends_table : LaidOut → Lookup → Bool
ends_table i l = not (is_inside i l.rva i.slot_width) || (l.value == 0)

-- the entries from an RVA on, with the one that ends the table: the first and up to n more
abbrev pub lookups_from : ℕ → LaidOut → ℕ → ℕ → List Lookup
lookups_from zero i rva slot = lookup_at i rva slot ∷ []
lookups_from (suc n) i rva slot =
    lookup_at i rva slot
    ∷ (if ends_table i (lookup_at i rva slot) then [] else lookups_from n i (rva + i.slot_width) (slot + i.slot_width))

abbrev pub lookups_of : LaidOut → Descriptor → List Lookup
lookups_of i d = lookups_from i.size i (lookup_table d) d.addresses

-- the top bit says that the entry holds an ordinal
abbrev pub is_ordinal : LaidOut → ℕ → Bool
is_ordinal i value = value / 2 ^ (8 * i.slot_width - 1) == 1

-- the name after its hint of two bytes
abbrev pub name_of : LaidOut → ℕ → Option (List ℕ)
name_of i value = i.text (value % 2 ^ 31 + 2)

abbrev pub key_of : LaidOut → ℕ → Key
key_of i value = if is_ordinal i value then Ordinal (value % 2 ^ 16) else Name (unwrap_or (name_of i value) [])

abbrev pub import_of : LaidOut → List ℕ → Lookup → Option Import
import_of i module_name l =
    if ends_table i l then None
    else Some (record { module_name = module_name; key = key_of i l.value; slot = l.slot })

abbrev pub module_of : LaidOut → Descriptor → List ℕ
module_of i d = unwrap_or (i.text d.name) []

abbrev pub imports_in : LaidOut → Descriptor → List Import
imports_in i d = if ends_list i d then [] else filter_map (import_of i (module_of i d)) (lookups_of i d)

abbrev pub imports_at : LaidOut → Option Directory → List Import
imports_at i None = []
imports_at i (Some d) = flat_map (imports_in i) (descriptors_of i d.rva)

-- the imports of an image, in table order
abbrev pub imports_of : LaidOut → List Import
imports_of i = imports_at i (i.directory 1)
