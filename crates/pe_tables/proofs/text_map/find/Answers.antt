-- A string after the whole run is new.
use Rattle.std.proofs.Common.{sym}
use Rattle.pe_tables.proofs.TextRun.{found-new}
use Rattle.pe_tables.proofs.text_map.find.Goals as goal

pub returns-then-all_before : goal.returns-then-all_before
returns-then-all_before c = sym (found-new c.args.run.now c.args.text.now (c.all_before.ensures.0 c.if-all_before.true))
