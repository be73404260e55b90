-- The members of an archive by their names.
use Rattle.std.specs.Prelude.{ℕ, Bool, true, false, List, filter, find, Option, None, Some, Result, Ok, Err, slice_get}
use Rattle.std.specs.Option.{option_or}
use Rattle.std.specs.Str.{bytes_eq}
use Rattle.pe_view.specs.declared.fault.Fault.{Fault}
use Rattle.coff_archive.specs.Members.{Member}
use Rattle.coff_archive.specs.Names.{name_of}

-- a name is this one
abbrev pub is_name : List ℕ → Option (List ℕ) → Bool
is_name name None = false
is_name name (Some text) = bytes_eq text name

-- a member has this name, where `//` has these bytes
abbrev pub is_named : List ℕ → List ℕ → Member → Bool
is_named names name m = is_name name (name_of names m)

-- a walk over the members reads one with this name
abbrev pub reads_named : List ℕ → List ℕ → Result Member Fault → Bool
reads_named names name (Ok m) = is_named names name m
reads_named names name (Err fault) = false

-- it ends by a fault
abbrev pub is_fault : Result Member Fault → Bool
is_fault (Ok m) = false
is_fault (Err fault) = true

-- member `index` of those of a walk that have this name, or else the fault that ends it
abbrev pub named_at : List ℕ → List ℕ → ℕ → List (Result Member Fault) → Option (Result Member Fault)
named_at names name index reads = option_or (slice_get (filter (reads_named names name) reads) index) (find is_fault reads)
