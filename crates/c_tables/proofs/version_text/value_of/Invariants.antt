use Rattle.std.proofs.Common.{◌≡◌}
use Rattle.pe_version.specs.StringsLeft.{strings_left}
use Rattle.c_tables.specs.VersionRows.{value_of}
use Rattle.c_tables.proofs.version_text.value_of.Given as goal

abbrev pub invariant-loop-string : goal.invariant-loop-string
invariant-loop-string l = record {
  found : value_of l.key (strings_left l.string-iterator) ≡ value_of l.key (strings_left l.strings);
}
