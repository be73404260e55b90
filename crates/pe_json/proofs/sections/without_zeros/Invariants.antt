use Rattle.std.proofs.Common.{◌≡◌, ◌≤◌, take}
use Rattle.pe_json.specs.Sections.{without_zeros}
use Rattle.pe_json.proofs.sections.without_zeros.Given as goal

abbrev pub invariant-loop-index : goal.invariant-loop-index
invariant-loop-index l = (l.len ≤ l.index) × (without_zeros (take l.index l.bytes) ≡ take l.len l.bytes)
