-- The searches whose ends are remembered. No contract of a public function cites it.
use Rattle.std.specs.Prelude.{◌≡◌, ℕ, List, Some, slice_get}
use Rattle.pe_tables.specs.Key.{Key}
use Rattle.pe_set.specs.Set.{Module}
use Rattle.pe_set.specs.SearchEnds.{EndsFrom}
use Rattle.pe_set.specs.StandView.{stand_view, stand_of}
use Rattle.pe_set.specs.declared.ends.Ends.{Ends}
use Rattle.pe_set.specs.declared.search.Resolution.{Resolution}
use Rattle.pe_set.specs.declared.standing.Standing.{Standing}

-- a search that passes this place ends so
abbrev pub IsEnd : List Module → Standing × Resolution → Type 0
IsEnd s known = (p : ℕ × Key) → stand_view known.0 ≡ stand_of p → EndsFrom s known.1 p

abbrev pub AreEnds : {A : Type 0} → List Module → Ends A → Type 0
AreEnds s ends = (i : ℕ) (known : Standing × Resolution) → slice_get ends.ends.entries i ≡ Some known → IsEnd s known
