use Rattle.std.proofs.Common.{◌≡◌, rules, refl}
use Rattle.pe_text.specs.declared.outcome.Outcome.TheVariants.{Refused}
use Rattle.pe_text.proofs.Reports.{Puts-whole, Puts-failed}
use Rattle.pe_reach.proofs.view_report.write_refused.Goals as goal

pub returns-in-Ok-clause-puts : goal.returns-in-Ok-clause-puts
returns-in-Ok-clause-puts g c =
    Puts-whole g.W.Sink.taken g.W.Sink.failures (λ outcome text. outcome ≡ Refused c.args.fault) _ _ c.finish.new.self _ _ (Refused c.args.fault) c.new-text.ensures.fresh (c.refuse.ensures.0, refl, c.refuse.ensures.1)
    c.in-Ok.ensures.written (search rules)

pub returns-in-Err-clause-puts : goal.returns-in-Err-clause-puts
returns-in-Err-clause-puts g c =
    Puts-failed g.W.Sink.taken g.W.Sink.failures (λ outcome text. outcome ≡ Refused c.args.fault) _ _ c.finish.new.self _ _ (Refused c.args.fault) c.new-text.ensures.fresh (c.refuse.ensures.0, refl, c.refuse.ensures.1)
    c.in-Err.ensures.written (search rules)
