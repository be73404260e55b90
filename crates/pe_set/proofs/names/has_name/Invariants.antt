use Rattle.std.proofs.Common.{◌≡◌, drop}
use Rattle.std.specs.List.{list_any}
use Rattle.pe_set.specs.Set.{same_name}
use Rattle.pe_set.specs.SetView.{entries_of}
use Rattle.pe_set.proofs.names.has_name.Given as goal

abbrev pub invariant-loop-entry : goal.invariant-loop-entry
invariant-loop-entry l = list_any (λ entry. same_name l.name entry.name) (entries_of (drop l.entry-index l.entries)) ≡ list_any (λ entry. same_name l.name entry.name) (entries_of l.entries)
