use Rattle.std.proofs.Common.{◌≡◌, drop, true}
use Rattle.std.specs.List.{list_all}
use Rattle.coff_read.specs.Names.{is_digit, decimal_value}
use Rattle.coff_read.proofs.names.decimal_value.Given as goal

abbrev pub invariant-loop-digit : goal.invariant-loop-digit
invariant-loop-digit l = record {
  digits : list_all is_digit (drop l.digit-index l.digits) ≡ true;
  value : decimal_value l.value (drop l.digit-index l.digits) ≡ decimal_value 0 l.digits;
}
