-- A string after the whole run is not in it.
use Rattle.std.proofs.Common.{ap, sym}
use Rattle.std.specs.Prelude.{is_some}
use Rattle.pe_tables.proofs.TextRun.{found-new}
use Rattle.pe_tables.proofs.text_map.is_in.Goals as goal

pub returns-then-behind : goal.returns-then-behind
returns-then-behind c = sym (ap is_some (found-new c.args.run.now c.args.text.now (c.requires.tells c.if-behind.true)))
