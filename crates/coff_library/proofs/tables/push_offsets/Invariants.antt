use Rattle.std.proofs.Common.{◌≡◌, ◌++◌, drop}
use Rattle.std.specs.Prelude.{map}
use Rattle.pe_numbers.specs.declared.number.Number.TheVariants.{U32}
use Rattle.pe_numbers.specs.Numbers.{numbers_bytes}
use Rattle.coff_library.proofs.tables.push_offsets.Given as goal

abbrev pub invariant-loop-offset : goal.invariant-loop-offset
invariant-loop-offset g l =
    l.bytes.items ++ numbers_bytes (map U32 (drop l.offset-index l.offsets)) ≡ l.initial.bytes.items ++ numbers_bytes (map U32 l.offsets)
