-- What the rules of faults 33 to 38 compare.
use Rattle.std.specs.Prelude.{ℕ, ◌+◌, ◌-◌, ◌/◌, ◌%◌, ◌==◌, Bool, nat_lt, List, Option, None, Some, if◌then◌else◌, option_map, option_and_then}
use Rattle.std.specs.List.{find}
use Rattle.pe_head.specs.declared.directory.Directory.{Directory}
use Rattle.pe_layout.specs.Image.{LaidOut, is_inside, number_at}
use Rattle.pe_tables.specs.Fixups.{Block, blocks_of, ends_table, kind_of, width_of}
use Rattle.pe_detail.specs.declared.detail.Detail.{Detail}
use Rattle.pe_detail.specs.declared.detail.Detail.TheVariants.{PastImage, BlockSize, EntryType, FieldBytes}
use Rattle.pe_detail.specs.Numbers.{number_in}

-- fault 33: BlockSize of the block at an RVA, and what is left of a directory that ends at `end`
abbrev pub block_detail : LaidOut → ℕ → ℕ → Option Detail
block_detail i end at = option_map (λ size. BlockSize size (end - at)) (number_in 4 i (at + 4))

-- BlockSize, if a table that ends at `end` has a block at an RVA
abbrev pub block_size : LaidOut → ℕ → ℕ → Option ℕ
block_size i end rva = if ends_table i end rva then None else Some (number_at 4 i (rva + 4))

-- a block ends after an RVA
abbrev pub ends_after : ℕ → Block → Bool
ends_after at b = nat_lt at (b.rva + b.size)

-- PageRVA of the first of these blocks that ends after an RVA
abbrev pub page_in : ℕ → List Block → Option ℕ
page_in at blocks = option_map (λ b. b.page) (find (ends_after at) blocks)

-- PageRVA of the block with the entry at an RVA
abbrev pub page_of : LaidOut → Directory → ℕ → Option ℕ
page_of i d at = page_in at (blocks_of i d)

-- the size of the field that an entry of a type names
abbrev pub field_width : ℕ → Option ℕ
field_width t = option_map width_of (kind_of t)

-- faults 35 to 38 of an entry of this type, whose field is at an RVA
abbrev pub entry_detail : LaidOut → ℕ → ℕ → ℕ → Option Detail
entry_detail i number t field =
    if number == 35 then Some (EntryType t field)
    else (if number == 36 then option_map (λ width. PastImage width field i.size) (field_width t)
    else option_map (λ width. FieldBytes width field) (field_width t))

-- faults 35 to 38 of the entry at an RVA, in a block with this PageRVA
abbrev pub entry_detail_at : LaidOut → ℕ → ℕ → ℕ → Option Detail
entry_detail_at i number at page = option_and_then (λ value. entry_detail i number (value / 4096) (page + value % 4096)) (number_in 2 i at)

-- faults 35 to 38 of the entry at an RVA
abbrev pub field_detail : LaidOut → Directory → ℕ → ℕ → Option Detail
field_detail i d number at =
    if is_inside i d.rva d.size then option_and_then (entry_detail_at i number at) (page_of i d at) else None

abbrev pub fixup_detail_in : LaidOut → Directory → ℕ → ℕ → Option Detail
fixup_detail_in i d number at =
    if number == 33 then block_detail i (d.rva + d.size) at
    else (if number == 34 then Some (PastImage d.size at i.size)
    else field_detail i d number at)

abbrev pub fixup_detail_of : LaidOut → Option Directory → ℕ → ℕ → Option Detail
fixup_detail_of i None number at = None
fixup_detail_of i (Some d) number at = fixup_detail_in i d number at

-- faults 33 to 38 at an RVA
abbrev pub fixup_detail : LaidOut → ℕ → ℕ → Option Detail
fixup_detail i number at = fixup_detail_of i (i.directory 5) number at
