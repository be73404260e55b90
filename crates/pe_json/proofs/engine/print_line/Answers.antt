use Rattle.std.proofs.Common.{rules, refl}
use Rattle.pe_text.proofs.Reports.{Puts-whole, Puts-failed, Puts-none}
use Rattle.pe_reach.specs.Views.{seen_of, told_of}
use Rattle.pe_json.specs.JsonReport.{IsLine}
use Rattle.pe_json.proofs.engine.print_line.Goals as goal

pub returns-in-Ok-finish-clause-puts : goal.returns-in-Ok-finish-clause-puts
returns-in-Ok-finish-clause-puts g c =
    Puts-whole g.W.Sink.taken g.W.Sink.failures (IsLine c.args.beyond c.args.name.now (told_of c.args.file) (seen_of c.args.file)) _ _ c.finish.new.self _ _ c.in-Ok.outcome c.new-text.ensures.fresh
    (_, (c.in-Ok.ensures.verdict, refl), c.in-Ok.ensures.adds) c.in-Ok-finish.ensures.written (search rules)

pub returns-in-Err-clause-puts : goal.returns-in-Err-clause-puts
returns-in-Err-clause-puts g c =
    Puts-failed g.W.Sink.taken g.W.Sink.failures (IsLine c.args.beyond c.args.name.now (told_of c.args.file) (seen_of c.args.file)) _ _ c.finish.new.self _ _ c.in-Ok.outcome c.new-text.ensures.fresh
    (_, (c.in-Ok.ensures.verdict, refl), c.in-Ok.ensures.adds) c.in-Err.ensures.written (search rules)

pub returns-in_default-clause-puts : goal.returns-in_default-clause-puts
returns-in_default-clause-puts g c =
    Puts-none g.W.Sink.taken g.W.Sink.failures (IsLine c.args.beyond c.args.name.now (told_of c.args.file) (seen_of c.args.file)) _ c.write_line.new.text _ _ c.new-text.ensures.fresh c.in_default.ensures.unwritten (search rules)
