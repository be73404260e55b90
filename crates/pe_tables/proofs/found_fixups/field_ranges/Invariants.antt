use Rattle.std.proofs.Common.{◌≡◌, take}
use Rattle.std.specs.Prelude.{map}
use Rattle.pe_tables.specs.Fixups.{range_of}
use Rattle.pe_tables.proofs.found_fixups.field_ranges.Given as goal

abbrev pub invariant-loop-fixup : goal.invariant-loop-fixup
invariant-loop-fixup g l = l.ranges.items ≡ map range_of (take l.fixup-index l.fixups)
