use Rattle.std.proofs.Common.{◌≡◌, ◌≤◌, ◌++◌, length}
use Rattle.pe_tables.specs.Encoded.{FieldsAscend, encoded}
use Rattle.pe_tables.proofs.encode.encode_fixups.Given as goal

abbrev pub invariant-loop-rest : goal.invariant-loop-rest
invariant-loop-rest g l = record {
  ascend : FieldsAscend l.rest;
  part : length l.rest ≤ length l.fn.fixups;
  bytes : l.bytes.items ++ encoded l.rest ≡ encoded l.fn.fixups;
}

abbrev pub decreases-loop-rest : goal.decreases-loop-rest
decreases-loop-rest g l = length l.rest
