-- What a placed source records of its calls.
use Rattle.std.specs.Prelude.{ℕ, List}
use Rattle.pe_reach.specs.Parts.{Part}
use Rattle.pe_reach.specs.declared.part_source.Placed.{Placed}

-- the parts that it returned
abbrev pub parts_told : {T : Type 0} → Placed T → List Part
parts_told placed = placed.told.list

-- how often it failed
abbrev pub failures_of : {T : Type 0} → Placed T → ℕ
failures_of placed = placed.failures
