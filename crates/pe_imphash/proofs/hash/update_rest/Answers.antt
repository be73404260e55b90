use Rattle.std.proofs.Common.{arith}
use Rattle.pe_tables.specs.ImportView.{import_view}
use Rattle.pe_imphash.specs.ImportText.{further_text}
use Rattle.pe_imphash.proofs.Longer.{passed}
use Rattle.pe_imphash.proofs.hash.update_rest.Goals as goal

pub returns-in_default-clause-fits : goal.returns-in_default-clause-fits
returns-in_default-clause-fits c =
    passed further_text import_view c.args.imports.now c.loop-import.import-index _ c.update_further.result c.loop-import.left c.args.left
    c.update_further.ensures.count c.loop-import-test.true c.loop-import.invariant.left (omega arith)
