-- Where a search is, as maps store it. No contract of a public function cites it.
use Rattle.std.specs.Prelude.{ℕ, suc, List, [], length}
use Rattle.pe_tables.specs.Key.{Key, Ordinal, Name}
use Rattle.pe_set.specs.declared.standing.Standing.{Standing}

-- an image's number, and a key as a number, and a name with its length
abbrev pub Stand : Type 0
Stand = ℕ × ℕ × ℕ × List ℕ

abbrev pub stand_view : Standing → Stand
stand_view at = (at.image, at.number, at.len, at.name.now)

abbrev pub stand_of : ℕ × Key → Stand
stand_of (i, Ordinal n) = (i, suc n, 0, [])
stand_of (i, Name text) = (i, 0, length text, text)
