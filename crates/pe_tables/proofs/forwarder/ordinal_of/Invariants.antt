use Rattle.std.proofs.Common.{◌≡◌, ◌≤◌, drop}
use Rattle.std.specs.List.{list_all}
use Rattle.pe_tables.specs.Forwarder.{is_digit, decimal_value}
use Rattle.pe_tables.proofs.forwarder.ordinal_of.Given as goal

abbrev pub invariant-loop-digit : goal.invariant-loop-digit
invariant-loop-digit l = record {
  digits : list_all is_digit (drop l.digit-index l.digits) ≡ list_all is_digit l.digits;
  value : decimal_value l.ordinal (drop l.digit-index l.digits) ≡ decimal_value 0 l.digits;
  small : l.ordinal ≤ 65535;
}
