use Rattle.std.proofs.Common.{◌≡◌, ◌-◌, ◌*◌, ◌++◌, length, take, drop}
use Rattle.std.specs.Prelude.{replicate}
use Rattle.std.specs.List.{flat_map, AllByRecursion}
use Rattle.coff_read.specs.Records.{RelocationFits}
use Rattle.coff_object.specs.Written.{relocation_bytes}
use Rattle.coff_object.proofs.record_bytes.write_relocations.Given as goal

abbrev pub invariant-loop-index : goal.invariant-loop-index
invariant-loop-index l = record {
  told : AllByRecursion RelocationFits (drop l.index l.relocations) → AllByRecursion RelocationFits l.relocations;
  room : l.room ≡ flat_map relocation_bytes (take l.index l.relocations) ++ replicate (10 * (length l.relocations - l.index)) 0;
}
