use Rattle.std.proofs.Common.{◌≡◌, drop, true}
use Rattle.std.specs.List.{list_all}
use Rattle.coff_archive.specs.Bytes.{is_digit, digits_value}
use Rattle.coff_archive.proofs.bytes.digits_value.Given as goal

abbrev pub invariant-loop-digit : goal.invariant-loop-digit
invariant-loop-digit l = record {
  digits : list_all (is_digit l.radix) (drop l.digit-index l.digits) ≡ true;
  value : digits_value l.radix l.value (drop l.digit-index l.digits) ≡ digits_value l.radix 0 l.digits;
}
