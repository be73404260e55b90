use Rattle.std.proofs.Common.{rules, refl}
use Rattle.pe_text.specs.Engine.{IsRefusal}
use Rattle.pe_text.proofs.Reports.{Puts-whole, Puts-failed}
use Rattle.pe_text.proofs.engine.write_refusal.Goals as goal

pub returns-in-Ok-clause-puts : goal.returns-in-Ok-clause-puts
returns-in-Ok-clause-puts g c =
    Puts-whole g.W.Sink.taken g.W.Sink.failures (IsRefusal c.args.fault) _ _ c.finish.new.self _ _ c.refuse-outcome.result c.new-text.ensures.fresh (_, (c.refuse-outcome.ensures.outcome, refl), c.refuse-outcome.ensures.adds)
    c.in-Ok.ensures.written (search rules)

pub returns-in-Err-clause-puts : goal.returns-in-Err-clause-puts
returns-in-Err-clause-puts g c =
    Puts-failed g.W.Sink.taken g.W.Sink.failures (IsRefusal c.args.fault) _ _ c.finish.new.self _ _ c.refuse-outcome.result c.new-text.ensures.fresh (_, (c.refuse-outcome.ensures.outcome, refl), c.refuse-outcome.ensures.adds)
    c.in-Err.ensures.written (search rules)
