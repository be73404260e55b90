-- The sections and symbols of an object on a page.
use Rattle.std.specs.Prelude.{ℕ, List, length, map}
use denote.Bor.{Bor}
use Rattle.coff_read.specs.FormReading.{record_start, symbol_at, symbol_indexes}
use Rattle.coff_read.specs.Forms.{Form}
use Rattle.coff_read.specs.Records.{Raw, Bytes, Absent}

-- the size of a section, and how many of its bytes are in the file
abbrev pub sizes_of : Raw → ℕ × ℕ
sizes_of (Bytes bytes) = (length bytes, length bytes)
sizes_of (Absent size) = (size, 0)

-- names with their indexes
abbrev pub named : List (ℕ × Bor (List ℕ)) → List (ℕ × List ℕ)
named names = map (λ (name : ℕ × Bor (List ℕ)). (name.0, name.1.now)) names

-- the names of an object's symbols, each with the index of the symbol's record
abbrev pub symbol_names : Form → List ℕ → List (ℕ × List ℕ)
symbol_names big file = map (λ k. (k, (symbol_at big file (record_start big file k)).name)) (symbol_indexes big file)
