use Rattle.std.proofs.Common.{rules, refl}
use Rattle.pe_text.proofs.Reports.{Puts-whole, Puts-failed}
use Rattle.coff_archive_json.specs.ArchiveJson.{IsArchiveJson}
use Rattle.coff_archive_json.proofs.engine.archive_json_text.Goals as goal

pub returns-in-Ok-clause-puts : goal.returns-in-Ok-clause-puts
returns-in-Ok-clause-puts g c =
    Puts-whole g.W.Sink.taken g.W.Sink.failures (IsArchiveJson c.args.name.now c.args.file.now) _ _ c.finish.new.self _ _ c.write_lines-outcome.result c.new-text.ensures.fresh
    (_, (c.write_lines-outcome.ensures.verdict, refl), c.write_lines-outcome.ensures.adds) c.in-Ok.ensures.written (search rules)

pub returns-in-Err-clause-puts : goal.returns-in-Err-clause-puts
returns-in-Err-clause-puts g c =
    Puts-failed g.W.Sink.taken g.W.Sink.failures (IsArchiveJson c.args.name.now c.args.file.now) _ _ c.finish.new.self _ _ c.write_lines-outcome.result c.new-text.ensures.fresh
    (_, (c.write_lines-outcome.ensures.verdict, refl), c.write_lines-outcome.ensures.adds) c.in-Err.ensures.written (search rules)
