-- The strings that are stored. No contract of a public function cites it.
use Rattle.std.specs.Prelude.{ℕ, List, Option, ◌++◌}
use Rattle.std.specs.Borrow.{Bor}
use Rattle.pe_tables.specs.declared.key.Target.{Target}
use Rattle.pe_tables.specs.declared.text_map.TextMap.{TextMap}

-- those of the run, and the others
unfoldable pub entries_in : {A : Type 0} → TextMap A → List (Bor (List ℕ) × Option Target)
entries_in map = map.run.items ++ map.others.entries
