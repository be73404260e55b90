use Rattle.std.proofs.Common.{◌≡◌, ◌++◌, take}
use Rattle.std.specs.List.{flat_map}
use Rattle.pe_tables.specs.Encoded.{entry_bytes}
use Rattle.pe_tables.proofs.encode.push_entries.Given as goal

abbrev pub invariant-loop-fixup : goal.invariant-loop-fixup
invariant-loop-fixup g l = l.bytes.items ≡ l.initial.bytes.items ++ flat_map entry_bytes (take l.fixup-index l.fixups)
