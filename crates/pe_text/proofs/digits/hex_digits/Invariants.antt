use Rattle.std.proofs.Common.{◌≡◌, ◌-◌, drop, length}
use Rattle.pe_text.specs.Text.{hex}
use Rattle.pe_text.proofs.digits.hex_digits.Given as goal

abbrev pub invariant-loop-place : goal.invariant-loop-place
invariant-loop-place l = record {
  room : length l.digits ≡ 16;
  last : drop (16 - l.place) l.digits ≡ hex l.place l.number;
}
