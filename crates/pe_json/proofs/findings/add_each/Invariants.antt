use Rattle.std.proofs.Common.{◌≡◌, ◌++◌, take}
use Rattle.std.specs.Prelude.{flat_map}
use Rattle.pe_json.specs.FindingRows.{found}
use Rattle.pe_json.proofs.findings.add_each.Given as goal

abbrev pub invariant-loop-finding : goal.invariant-loop-finding
invariant-loop-finding g l = record {
  all : l.findings.items ≡ l.initial.findings.items ++ flat_map found (take l.finding-index l.more);
}
