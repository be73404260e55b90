-- The imports of an import table read so far. No contract of a public function cites it.
use Rattle.std.specs.Prelude.{◌≡◌, ℕ, List, ◌++◌, map}
use Rattle.pe_ranges.specs.Ranges.{SameRanges}
use Rattle.pe_ranges.specs.RangesView.{ranges_in}
use Rattle.pe_tables.specs.Imports.{Import}
use Rattle.pe_tables.specs.ImportFaults.{range_of}
use Rattle.pe_tables.specs.ImportView.{import_view}
use Rattle.pe_tables.specs.declared.imports.FoundImports.{FoundImports}

abbrev pub read_of : {A : Type 0} → FoundImports A → List Import
read_of found = map import_view found.imports.items

-- the ranges are those of the imports' slots
abbrev pub IsIndexed : {A : Type 0} → ℕ → FoundImports A → Type 0
IsIndexed width found = SameRanges (ranges_in found.slots) (map (range_of width) (read_of found))

-- some more imports were read
pub record Reads {A : Type 0} (width : ℕ) (old new : FoundImports A) (more : List Import) : Type 0 where
  pub imports : read_of new ≡ read_of old ++ more
  pub indexed : IsIndexed width new
