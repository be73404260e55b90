use Rattle.pe_tables.proofs.Patching.{shift_in_low}
use Rattle.pe_tables.proofs.bytes.shift_low.Goals as goal

pub returns : goal.returns
returns c = shift_in_low c.args.number c.args.from c.args.to c.ranges.from.fits
