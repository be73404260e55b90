use Rattle.std.proofs.Common.{◌≡◌, ◌≤◌, length, map, take, drop}
use Rattle.pe_records_c.specs.Rows.{filled}
use Rattle.pe_version.specs.StringsLeft.{strings_left}
use Rattle.c_tables.specs.VersionRows.{version_text}
use Rattle.c_tables.proofs.version_text.put_strings.Given as goal

abbrev pub invariant-loop-string : goal.invariant-loop-string
invariant-loop-string l = record {
  told : map version_text l.rows ≡ filled (λ text. text) (take l.count (strings_left l.strings)) (map version_text l.initial.rows);
  left : drop l.count (strings_left l.strings) ≡ strings_left l.string-iterator;
  within : l.count ≤ length (strings_left l.strings);
}
