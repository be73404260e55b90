-- Tables up to the first fault are those that have none, unless it is one of the exports.
use Rattle.std.proofs.Common.{sym}
use Rattle.pe_layout.specs.Layout.{image_of}
use Rattle.pe_reach.proofs.WholeTables.{of_first}
use Rattle.pe_reach.proofs.whole_tables.read_whole_tables.Goals as goal

pub returns-then-is_some-clause-tables : goal.returns-then-is_some-clause-tables
returns-then-is_some-clause-tables g c = of_first (image_of c.args.layout.now) c.in_ok-tables.tables (sym c.if-is_some.ensures) c.in_ok-tables.ensures.tables
