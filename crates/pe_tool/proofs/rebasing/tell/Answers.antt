use Rattle.std.proofs.Common.{rules}
use Rattle.pe_tool.proofs.RebaseRuns.{line_whole, line_part}
use Rattle.pe_tool.proofs.rebasing.tell.Goals as goal

pub returns-in-Ok : goal.returns-in-Ok
returns-in-Ok g c =
    line_whole g.W.Sink.taken g.W.Sink.failures c.args.base c.args.outcome _ _ c.finish.new.self _ _ c.new-text.ensures.fresh c.write_outcome.ensures c.in-Ok.ensures.written (search rules)

pub returns-in-Err : goal.returns-in-Err
returns-in-Err g c =
    line_part g.W.Sink.taken g.W.Sink.failures c.args.base c.args.outcome _ _ c.finish.new.self _ _ c.new-text.ensures.fresh c.write_outcome.ensures c.in-Err.ensures.written (search rules)
