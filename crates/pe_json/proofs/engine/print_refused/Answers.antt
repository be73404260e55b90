use Rattle.std.proofs.Common.{rules, refl}
use Rattle.pe_text.specs.declared.outcome.Outcome.TheVariants.{Refused}
use Rattle.pe_text.proofs.Reports.{Puts-whole, Puts-failed}
use Rattle.pe_reach.specs.Views.{seen_of, told_of}
use Rattle.pe_json.specs.JsonReport.{IsUnreadLine}
use Rattle.pe_json.proofs.engine.print_refused.Goals as goal

pub returns-in-Ok-clause-puts : goal.returns-in-Ok-clause-puts
returns-in-Ok-clause-puts g c =
    Puts-whole g.W.Sink.taken g.W.Sink.failures (IsUnreadLine c.args.name.now (told_of c.args.file) (seen_of c.args.file) c.args.fault) _ _ c.finish.new.self _ _ (Refused c.args.fault) c.new-text.ensures.fresh
    (_, (refl, refl), c.refuse.ensures) c.in-Ok.ensures.written (search rules)

pub returns-in-Err-clause-puts : goal.returns-in-Err-clause-puts
returns-in-Err-clause-puts g c =
    Puts-failed g.W.Sink.taken g.W.Sink.failures (IsUnreadLine c.args.name.now (told_of c.args.file) (seen_of c.args.file) c.args.fault) _ _ c.finish.new.self _ _ (Refused c.args.fault) c.new-text.ensures.fresh
    (_, (refl, refl), c.refuse.ensures) c.in-Err.ensures.written (search rules)
