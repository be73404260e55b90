-- What a base relocation table names, by RVA ("PE Format", The .reloc Section).
use Rattle.std.specs.Prelude.{◌≡◌, ◌≢◌, ℕ, ◌+◌, ◌*◌, ◌/◌, ◌%◌, ◌≤◌}
use Rattle.pe_head.specs.declared.directory.Directory.{Directory}
use Rattle.pe_layout.specs.Image.{LaidOut, number_at}
use Rattle.pe_tables.specs.Encoded.{type_of}
use Rattle.pe_tables.specs.declared.fixups.Fixup.{Fixup}

-- PageRVA and BlockSize of a block that begins at an RVA
abbrev pub page_rva : LaidOut → ℕ → ℕ
page_rva i rva = number_at 4 i rva

abbrev pub block_size_at : LaidOut → ℕ → ℕ
block_size_at i rva = number_at 4 i (rva + 4)

-- at an RVA of a table that ends at `end` a block begins: its header is in the table, and its BlockSize isn't 0
abbrev pub HasBlock : LaidOut → ℕ → ℕ → Type 0
HasBlock i end rva = (rva + 8 ≤ end) × (block_size_at i rva ≢ 0)

-- from one RVA of a table to another, a block at a time
pub data LeadsTo (i : LaidOut) (end : ℕ) : ℕ → ℕ → Type 0 where
  here : (rva : ℕ) → LeadsTo i end rva rva
  past : (rva to : ℕ) → HasBlock i end rva → LeadsTo i end (rva + block_size_at i rva) to → LeadsTo i end rva to

-- a block begins at an RVA to which the start of the table leads
abbrev pub IsBlock : LaidOut → Directory → ℕ → Type 0
IsBlock i d rva = LeadsTo i (d.rva + d.size) d.rva rva × HasBlock i (d.rva + d.size) rva

-- an entry of the block at an RVA, its index k, is wholly in the block and is a fixup: its type is that of the kind, and
-- its offset in the page gives the field
abbrev pub IsEntry : LaidOut → ℕ → ℕ → Fixup → Type 0
IsEntry i rva k f =
    (10 + 2 * k ≤ block_size_at i rva)
    × (f.entry ≡ rva + 8 + 2 * k)
    × (number_at 2 i f.entry / 4096 ≡ type_of f.kind)
    × (f.field ≡ page_rva i rva + number_at 2 i f.entry % 4096)

-- a block of the table has an entry that is the fixup
abbrev pub IsNamed : LaidOut → Directory → Fixup → Type 0
IsNamed i d f = (rva : ℕ) × (k : ℕ) × IsBlock i d rva × IsEntry i rva k f
