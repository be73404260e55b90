use Rattle.std.proofs.Common.{◌≡◌, ℕ, Bool, take}
use Rattle.std.specs.List.{list_any}
use Rattle.pe_ranges.specs.RangesView.{ranges_in}
use Rattle.pe_tables.specs.Fixups.{slot_range}
use Rattle.pe_tables.proofs.fixups.slot_ranges.Given as goal

abbrev pub invariant-loop-import : goal.invariant-loop-import
invariant-loop-import g l = (test : ℕ × ℕ → Bool) → list_any test (ranges_in l.ranges) ≡ list_any (λ i. test (slot_range l.width i.slot)) (take l.import-index l.imports)
