-- The ranges that are stored. No contract of a public function cites it.
use Rattle.std.specs.Prelude.{ℕ, List, ◌++◌}
use Rattle.pe_ranges.specs.declared.ranges.Ranges.{Ranges}

-- those of the run, and the others
unfoldable pub ranges_in : {A : Type 0} → Ranges A → List (ℕ × ℕ)
ranges_in ranges = ranges.run.items ++ ranges.others.entries
