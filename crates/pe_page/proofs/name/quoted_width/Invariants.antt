use Rattle.std.proofs.Common.{◌≡◌, ◌+◌, ◌*◌, ◌≤◌, length, take}
use Rattle.std.specs.Prelude.{flat_map}
use Rattle.pe_text.specs.Text.{escaped}
use Rattle.pe_page.proofs.name.quoted_width.Given as goal

abbrev pub invariant-loop-byte : goal.invariant-loop-byte
invariant-loop-byte l = record {
  value : l.width ≡ 2 + length (flat_map escaped (take l.byte-index l.name));
  small : l.width ≤ 2 + 4 * l.byte-index;
}
