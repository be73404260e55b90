use Rattle.std.proofs.Common.{◌≡◌}
use Rattle.pe_version.specs.TablesLeft.{tables_left, table_distance}
use Rattle.pe_version.proofs.tables.VersionTablesIterator.next.Given as goal

abbrev pub invariant-loop-self : goal.invariant-loop-self
invariant-loop-self l = tables_left l.self ≡ tables_left l.initial.self

abbrev pub decreases-loop-self : goal.decreases-loop-self
decreases-loop-self l = table_distance l.self
