use Rattle.std.proofs.Common.{sym}
use Rattle.c_tables.proofs.Keys.{other_len}
use Rattle.c_tables.proofs.version_text.is_utf16.Goals as goal

pub returns-then-units-text : goal.returns-then-units-text
returns-then-units-text c = sym (other_len c.args.units.now c.args.text.now c.if-units-text.true)
