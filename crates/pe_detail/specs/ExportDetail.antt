-- What the rules of faults 16 to 22 compare.
use Rattle.std.specs.Prelude.{ℕ, ◌+◌, ◌*◌, ◌==◌, List, length, Option, None, Some, if◌then◌else◌, option_map, option_and_then}
use Rattle.pe_head.specs.declared.directory.Directory.{Directory}
use Rattle.pe_layout.specs.Image.{LaidOut}
use Rattle.pe_detail.specs.declared.detail.Detail.{Detail}
use Rattle.pe_detail.specs.declared.detail.Detail.TheVariants.{PastImage, Outside, Forwarder, Limit, Index}
use Rattle.pe_detail.specs.Numbers.{number_in, past_image, no_text}

-- fault 17: the size and the RVA of a table, whose RVA and whose count are at these places
abbrev pub table_bytes : LaidOut → ℕ → ℕ → ℕ → Option Detail
table_bytes i at count width =
    option_and_then (λ rva. option_map (λ entries. PastImage (width * entries) rva i.size) (number_in 4 i count)) (number_in 4 i at)

-- fault 17 at an RVA field of the export directory table at x: the address table's, the name pointers' or the ordinals'
abbrev pub tables_detail : LaidOut → ℕ → ℕ → Option Detail
tables_detail i x at =
    if at == x + 28 then table_bytes i at (x + 20) 4
    else (if at == x + 32 then table_bytes i at (x + 24) 4
    else table_bytes i at (x + 24) 2)

-- fault 18: the count at an RVA
abbrev pub count_detail : LaidOut → ℕ → Option Detail
count_detail i at = option_map (λ count. Limit count 65536) (number_in 4 i at)

-- fault 19: the pointer at an RVA
abbrev pub pointer_detail : LaidOut → ℕ → Option Detail
pointer_detail i at = option_map (no_text i) (number_in 4 i at)

-- fault 20: the ordinal at an RVA, and the number of entries of the address table
abbrev pub ordinal_detail : LaidOut → ℕ → ℕ → Option Detail
ordinal_detail i x at = option_and_then (λ index. option_map (λ count. Index index count) (number_in 4 i (x + 20))) (number_in 2 i at)

-- fault 21: the address at an RVA
abbrev pub address_detail : LaidOut → ℕ → Option Detail
address_detail i at = option_map (λ rva. Outside rva i.size) (number_in 4 i at)

-- fault 22: the RVA of the forwarder's string; its length, if it is there
abbrev pub forwarder_text : LaidOut → ℕ → Option (List ℕ) → Detail
forwarder_text i rva None = no_text i rva
forwarder_text i rva (Some text) = Forwarder rva (length text)

abbrev pub forwarder_detail : LaidOut → ℕ → Option Detail
forwarder_detail i at = option_map (λ rva. forwarder_text i rva (i.text rva)) (number_in 4 i at)

-- faults 16 to 22 at an RVA, of the export directory table at x
abbrev pub export_detail_in : LaidOut → ℕ → ℕ → ℕ → Option Detail
export_detail_in i x number at =
    if number == 16 then Some (past_image i at 40)
    else (if number == 17 then tables_detail i x at
    else (if number == 18 then count_detail i at
    else (if number == 19 then pointer_detail i at
    else (if number == 20 then ordinal_detail i x at
    else (if number == 21 then address_detail i at
    else (if number == 22 then forwarder_detail i at
    else None))))))

abbrev pub export_detail_of : LaidOut → Option Directory → ℕ → ℕ → Option Detail
export_detail_of i None number at = None
export_detail_of i (Some d) number at = export_detail_in i d.rva number at

-- faults 16 to 22 at an RVA
abbrev pub export_detail : LaidOut → ℕ → ℕ → Option Detail
export_detail i number at = export_detail_of i (i.directory 0) number at
