-- The base relocation table ("PE Format", The .reloc Section): blocks of entries, each of which names a field to be relocated.
use Rattle.std.specs.Prelude.{◌≡◌, true, false, ℕ, zero, suc, ◌+◌, ◌-◌, ◌*◌, ◌/◌, ◌%◌, Bool, ◌||◌, ◌==◌, List, [], ◌∷◌, Option, Some, None, nat_lt, if◌then◌else◌, is_some, map}
use Rattle.std.specs.List.{filter_map, flat_map, range_with_len}
use Rattle.pe_head.specs.declared.directory.Directory.{Directory}
use Rattle.pe_layout.specs.Image.{LaidOut, number_at}
use Rattle.pe_tables.specs.declared.fixups.Fixup.{Fixup}
use Rattle.pe_tables.specs.declared.fixups.FixupKind.{FixupKind}
use Rattle.pe_tables.specs.declared.fixups.FixupKind.TheVariants.{Bits32, Bits64, High, Low}

-- a block: its RVA, its PageRVA and its BlockSize, which counts the whole block
pub record Block : Type 0 where
  pub rva : ℕ
  pub page : ℕ
  pub size : ℕ

abbrev pub block_at : LaidOut → ℕ → Block
block_at i rva = record { rva = rva; page = number_at 4 i rva; size = number_at 4 i (rva + 4) }

-- the table ends where fewer than 8 bytes of it remain, or at a BlockSize of 0
abbrev pub ends_table : LaidOut → ℕ → ℕ → Bool
ends_table i end rva = nat_lt end (rva + 8) || (number_at 4 i (rva + 4) == 0)

-- BlockSize, if a block is there
abbrev pub IsBlockSize : LaidOut → ℕ → ℕ → Option ℕ → Type 0
IsBlockSize i end rva None = ends_table i end rva ≡ true
IsBlockSize i end rva (Some size) = (ends_table i end rva ≡ false) × (size ≡ (block_at i rva).size)

-- the first n blocks from an RVA on, of a table that ends at `end`
abbrev pub blocks_from : ℕ → LaidOut → ℕ → ℕ → List Block
blocks_from zero i end rva = []
blocks_from (suc n) i end rva = if ends_table i end rva then [] else block_at i rva ∷ blocks_from n i end (rva + number_at 4 i (rva + 4))

abbrev pub blocks_of : LaidOut → Directory → List Block
blocks_of i d = blocks_from d.size i (d.rva + d.size) d.rva

-- an entry: its RVA, its type in the high four bits, and the RVA of the field that it names
pub record Entry : Type 0 where
  pub rva : ℕ
  pub kind : ℕ
  pub field : ℕ

abbrev pub entry_of : LaidOut → ℕ → ℕ → Entry
entry_of i page rva = record { rva = rva; kind = number_at 2 i rva / 4096; field = page + number_at 2 i rva % 4096 }

abbrev pub entry_at : LaidOut → Block → ℕ → Entry
entry_at i b k = entry_of i b.page (b.rva + 8 + 2 * k)

-- so many entries of a block with this PageRVA, from the one at an RVA on
abbrev pub entries_at : LaidOut → ℕ → ℕ → ℕ → List Entry
entries_at i page rva count = map (λ k. entry_of i page (rva + 2 * k)) (range_with_len 0 count)

-- the entries of a block are those that end by its end
abbrev pub entries_of : LaidOut → Block → List Entry
entries_of i b = map (entry_at i b) (range_with_len 0 ((b.size - 8) / 2))

-- the kind of field of a type: 1 is HIGH, 2 is LOW, 3 is HIGHLOW, 10 is DIR64; 0, ABSOLUTE, names no field
abbrev pub kind_of : ℕ → Option FixupKind
kind_of t =
    if t == 1 then Some High
    else if t == 2 then Some Low
    else if t == 3 then Some Bits32
    else if t == 10 then Some Bits64
    else None

abbrev pub is_known : ℕ → Bool
is_known t = (t == 0) || is_some (kind_of t)

-- the size of a field in bytes
abbrev pub width_of : FixupKind → ℕ
width_of High = 2
width_of Low = 2
width_of Bits32 = 4
width_of Bits64 = 8

abbrev pub fixup_by : Entry → Option FixupKind → Option Fixup
fixup_by e None = None
fixup_by e (Some kind) = Some (record { entry = e.rva; field = e.field; kind = kind })

abbrev pub fixup_of : Entry → Option Fixup
fixup_of e = fixup_by e (kind_of e.kind)

abbrev pub fixups_in : LaidOut → Block → List Fixup
fixups_in i b = filter_map fixup_of (entries_of i b)

abbrev pub fixups_at : LaidOut → Option Directory → List Fixup
fixups_at i None = []
fixups_at i (Some d) = flat_map (fixups_in i) (blocks_of i d)

-- the fixups of an image, in table order
abbrev pub fixups_of : LaidOut → List Fixup
fixups_of i = fixups_at i (i.directory 5)

-- the bytes of a field, and those of an import's slot
abbrev pub range_of : Fixup → ℕ × ℕ
range_of f = (f.field, width_of f.kind)

abbrev pub slot_range : ℕ → ℕ → ℕ × ℕ
slot_range width slot = (slot, width)
