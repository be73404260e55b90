use Rattle.std.proofs.Common.{append-nil}
use Rattle.pe_text.proofs.Adding.{◌then◌}
use Rattle.pe_show.specs.Rows.{behind_gap}
use Rattle.pe_show.proofs.exports.write_behind_gap.Goals as goal

pub returns : goal.returns
unfolding behind_gap
returns g c = rw append-nil ((rw c.blanks.ensures at c.text.ensures) then (c.text-2.ensures then c.write_name.ensures))
