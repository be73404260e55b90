-- Tables of records that have one length, each right after the one before it.
use Rattle.std.specs.Prelude.{ℕ, ◌*◌, ◌/◌, ◌-◌, ◌==◌, List, [], map, take, length, Option, None, Some, if◌then◌else◌}
use Rattle.std.specs.List.{range_with_len}
use Rattle.pe_view.specs.Number.{num, byte_of}
use Rattle.pe_head.specs.declared.directory.Directory.{Directory}
use Rattle.pe_layout.specs.Image.{LaidOut, bytes_at}

-- the bytes from an RVA on that the file holds in one run
abbrev pub raw_bytes : LaidOut → ℕ → List ℕ
raw_bytes i rva = bytes_at i rva (i.raw_left rva)

-- the bytes of a table: of those that the file holds in one run, as many as its Size says
abbrev pub table_bytes : LaidOut → Option Directory → List ℕ
table_bytes i None = []
table_bytes i (Some d) = take d.size (raw_bytes i d.rva)

-- where a table begins
abbrev pub start_of : Option Directory → ℕ
start_of None = 0
start_of (Some d) = d.rva

-- the number in the `width` bytes at an offset of a table
abbrev pub number : ℕ → List ℕ → ℕ → ℕ
number width bytes offset = num (byte_of bytes) offset width

-- the records that are whole in the bytes of a table, where `at` gives the record at an offset
abbrev pub records_in : {R : Type 0} → (List ℕ → ℕ → R) → ℕ → List ℕ → List R
records_in at len bytes = map (λ k. at bytes (len * k)) (range_with_len 0 (length bytes / len))

-- the record before record k, if there is one
abbrev pub record_before : {R : Type 0} → (List ℕ → ℕ → R) → ℕ → List ℕ → ℕ → Option R
record_before at len bytes k = if k == 0 then None else Some (at bytes (len * (k - 1)))
