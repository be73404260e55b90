use Rattle.std.proofs.Common.{rules}
use Rattle.pe_text.proofs.Reports.{Puts-whole, Puts-failed}
use Rattle.pe_text.specs.declared.outcome.Outcome.TheVariants.{Done}
use Rattle.pe_reach.specs.PartsRan.{IsTextOfTables}
use Rattle.pe_reach.proofs.parts_report.write_tables.Goals as goal

pub returns-in-Ok : goal.returns-in-Ok
returns-in-Ok g c =
    Puts-whole g.W.Sink.taken g.W.Sink.failures (IsTextOfTables g.T.TablesReport.is_text c.args.headers.now c.args.tables.now) _ _ c.finish.new.self _ _ Done c.new-text.ensures.fresh c.write.ensures.adds
    c.in-Ok.ensures.written (search rules)

pub returns-in-Err : goal.returns-in-Err
returns-in-Err g c =
    Puts-failed g.W.Sink.taken g.W.Sink.failures (IsTextOfTables g.T.TablesReport.is_text c.args.headers.now c.args.tables.now) _ _ c.finish.new.self _ _ Done c.new-text.ensures.fresh c.write.ensures.adds
    c.in-Err.ensures.written (search rules)
