use Rattle.pe_tables.proofs.Patching.{shift_in_high}
use Rattle.pe_tables.proofs.bytes.shift_high.Goals as goal

pub returns : goal.returns
returns c = shift_in_high c.args.number c.args.from c.args.to c.ranges.from.fits
