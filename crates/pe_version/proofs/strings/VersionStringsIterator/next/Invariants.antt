use Rattle.std.proofs.Common.{◌≡◌, length}
use Rattle.pe_version.specs.StringsLeft.{strings_left}
use Rattle.pe_version.specs.TablesLeft.{tables_left}
use Rattle.pe_version.proofs.strings.VersionStringsIterator.next.Given as goal

abbrev pub invariant-loop-string : goal.invariant-loop-string
invariant-loop-string l = strings_left l.self ≡ strings_left l.initial.self

abbrev pub decreases-loop-string : goal.decreases-loop-string
decreases-loop-string l = length (tables_left l.self.tables)
