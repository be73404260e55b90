use Rattle.pe_tables.proofs.Patching.{shift_in_32}
use Rattle.pe_tables.proofs.bytes.shift_32.Goals as goal

pub returns : goal.returns
returns c = shift_in_32 c.args.number c.args.from c.args.to c.ranges.from.fits
