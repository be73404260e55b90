use Rattle.std.proofs.Common.{rules}
use Rattle.pe_set.specs.SetView.{entries_of}
use Rattle.pe_at.specs.SetJudged.{IsSetJudged}
use Rattle.pe_text.proofs.Reports.{Puts-whole, Puts-failed, Puts-none, write_told}
use Rattle.pe_at.proofs.map_engine.at_map.Goals as goal

pub returns-in-Ok-finish-clause-puts : goal.returns-in-Ok-finish-clause-puts
returns-in-Ok-finish-clause-puts g c =
    Puts-whole g.W.Sink.taken g.W.Sink.failures (IsSetJudged c.args.policy (entries_of c.args.set.now)) _ _ c.finish.new.self _ _ c.in-Ok.outcome c.new-text.ensures.fresh c.in-Ok.ensures.adds
    c.in-Ok-finish.ensures.written (search rules)

pub returns-in-Err-clause-puts : goal.returns-in-Err-clause-puts
returns-in-Err-clause-puts g c =
    Puts-failed g.W.Sink.taken g.W.Sink.failures (IsSetJudged c.args.policy (entries_of c.args.set.now)) _ _ c.finish.new.self _ _ c.in-Ok.outcome c.new-text.ensures.fresh c.in-Ok.ensures.adds
    c.in-Err.ensures.written (search rules)

pub returns-in_default-clause-puts : goal.returns-in_default-clause-puts
returns-in_default-clause-puts g c =
    Puts-none g.W.Sink.taken g.W.Sink.failures (IsSetJudged c.args.policy (entries_of c.args.set.now)) _ c.write_map.new.text _ _ c.new-text.ensures.fresh c.in_default.ensures.adds_none (search rules)

pub returns-in-Ok-finish-clause-write : goal.returns-in-Ok-finish-clause-write
returns-in-Ok-finish-clause-write g c = write_told (IsSetJudged c.args.policy (entries_of c.args.set.now)) _ _ _ _ _ (returns-in-Ok-finish-clause-puts g c)

pub returns-in-Err-clause-write : goal.returns-in-Err-clause-write
returns-in-Err-clause-write g c = write_told (IsSetJudged c.args.policy (entries_of c.args.set.now)) _ _ _ _ _ (returns-in-Err-clause-puts g c)
