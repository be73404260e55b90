use Rattle.std.proofs.Common.{◌≡◌, ◌≤◌, ◌++◌, ◌/◌, ◌-◌, ℕ, List, Option, length}
use Rattle.std.specs.Prelude.{max}
use Rattle.pe_tables.specs.NameTrail.{Follows}
use Rattle.pe_tables.proofs.long_texts.LongTexts.extend.Given as goal

abbrev pub invariant-loop-trail : goal.invariant-loop-trail
invariant-loop-trail g l = record {
  follows : Follows l.self.nodes.items l.text l.fn.trail.items → Follows l.self.nodes.items l.text l.trail.items;
  goes_on : (more : List (Option ℕ)) × (l.trail.items ≡ l.fn.trail.items ++ more);
  needed : length l.trail.items ≤ max (length l.fn.trail.items) (length l.text / 256);
}

abbrev pub decreases-loop-trail : goal.decreases-loop-trail
decreases-loop-trail g l = length l.text / 256 - length l.trail.items
