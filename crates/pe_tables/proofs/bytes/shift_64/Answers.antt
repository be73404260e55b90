use Rattle.pe_tables.proofs.Patching.{shift_in_64}
use Rattle.pe_tables.proofs.bytes.shift_64.Goals as goal

pub returns : goal.returns
returns c = shift_in_64 c.args.number c.args.from c.args.to c.ranges.from.fits
