use Rattle.std.proofs.Common.{◌≡◌, ◌+◌, drop, map}
use Rattle.pe_records_c.specs.SetRows.{entry_text, claimed_sizes}
use Rattle.pe_records_c.proofs.mapping.are_larger.Given as goal

abbrev pub invariant-loop-entry : goal.invariant-loop-entry
invariant-loop-entry l = l.most_bytes + claimed_sizes (map entry_text (drop l.entry-index l.set)) ≡ l.left + claimed_sizes (map entry_text l.set)
