use Rattle.std.proofs.Common.{◌≡◌, take}
use Rattle.std.specs.Prelude.{map}
use Rattle.pe_set.specs.SetView.{entries_of}
use Rattle.petool_page.specs.Sets.{entry_of}
use Rattle.petool_page.proofs.map.entries_in.Given as goal

abbrev pub invariant-loop-entry : goal.invariant-loop-entry
invariant-loop-entry g l = entries_of l.entries.items ≡ map entry_of (take l.entry-index l.set)
