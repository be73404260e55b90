use Rattle.std.proofs.Common.{◌++◌, codes}
use Rattle.pe_tables.specs.ImportView.{import_view}
use Rattle.pe_json.specs.TableRows.{import_row}
use Rattle.pe_json.proofs.Objects.{left-out, rows_left}
use Rattle.pe_json.proofs.tables.write_next_imports.Goals as goal

pub returns-then-has_failed : goal.returns-then-has_failed
returns-then-has_failed g c = left-out _ _ _ _ _ c.loop-import.invariant.adds (c.has_failed.ensures.ends c.if-has_failed.true)
    (rows_left (λ i. codes "," ++ import_row (import_view i)) c.loop-import.import-index c.args.imports.now)
