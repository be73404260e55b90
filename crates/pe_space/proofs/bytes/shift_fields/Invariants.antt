use Rattle.std.proofs.Common.{◌≡◌, drop}
use Rattle.std.specs.Prelude.{pos, ◌-ℤ◌}
use Rattle.pe_space.specs.Memory.{shifted_all}
use Rattle.pe_space.proofs.bytes.shift_fields.Given as goal

abbrev pub invariant-loop-fixup : goal.invariant-loop-fixup
invariant-loop-fixup l = shifted_all (pos l.to -ℤ pos l.from) (drop l.fixup-index l.fixups) l.memory ≡ shifted_all (pos l.to -ℤ pos l.from) l.fixups l.fn.memory
