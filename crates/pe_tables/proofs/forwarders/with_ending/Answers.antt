-- The string has the dot, or it begins at the dot or after it.
use Rattle.std.proofs.Common.{sym}
use Rattle.pe_tables.specs.Key.{key_view}
use Rattle.pe_tables.proofs.ForwarderEndings.{longer, not_longer}
use Rattle.pe_tables.proofs.forwarders.with_ending.Goals as goal

pub returns-then-text-ending : goal.returns-then-text-ending
returns-then-text-ending c = λ file end e le is.
    sym (not_longer file end c.args.ending.len e.back (key_view c.args.ending.key) e.inside e.dot e.names c.args.text.now c.if-text-ending.true is)

pub returns : goal.returns
returns c = λ file end e le is.
    sym (longer file end c.args.ending.len e.back (key_view c.args.ending.key) e.inside e.dot e.names c.args.text.now c.if-text-ending.false le is)
