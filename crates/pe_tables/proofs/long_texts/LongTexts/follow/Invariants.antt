use Rattle.std.proofs.Common.{◌≡◌, ◌≤◌, ◌<◌, ◌++◌, ◌/◌, ◌-◌, ℕ, List, length}
use Rattle.std.specs.Prelude.{max}
use Rattle.pe_tables.specs.LongTexts.{IsTrie, Grows, Leads}
use Rattle.pe_tables.proofs.long_texts.LongTexts.follow.Given as goal

abbrev pub invariant-loop-self : goal.invariant-loop-self
invariant-loop-self g l = record {
  trie : IsTrie l.self.nodes.items;
  paths : l.self.paths ≡ l.fn.self.paths;
  root : 0 < length l.self.nodes.items;
  grows : Grows l.fn.self.nodes.items l.self.nodes.items;
  leads : Leads l.self.nodes.items l.text l.path.items;
  goes_on : (more : List ℕ) × (l.path.items ≡ l.fn.path.items ++ more);
  needed : length l.path.items ≤ max (length l.fn.path.items) (length l.text / 256);
}

abbrev pub decreases-loop-self : goal.decreases-loop-self
decreases-loop-self g l = length l.text / 256 - length l.path.items
