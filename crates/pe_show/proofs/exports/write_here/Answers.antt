use Rattle.std.proofs.Common.{append-nil}
use Rattle.pe_text.proofs.Adding.{◌then◌}
use Rattle.pe_show.specs.Rows.{here_text}
use Rattle.pe_show.proofs.exports.write_here.Goals as goal

pub returns : goal.returns
unfolding here_text
returns g c = rw append-nil (c.write_right.ensures then (c.text.ensures then (c.hex_at_least.ensures then (c.text-2.ensures then c.write.ensures))))
