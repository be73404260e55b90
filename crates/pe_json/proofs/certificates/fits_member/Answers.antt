use Rattle.std.proofs.Common.{refl}
use Rattle.json.specs.Print.{escape_byte}
use Rattle.pe_json.specs.JsonText.{member}
use Rattle.pe_json.proofs.certificates.fits_member.Goals as goal

pub returns-then-fits : goal.returns-then-fits
unfolding member escape_byte
returns-then-fits c = rw c.if-fits.true refl

pub returns-else-fits : goal.returns-else-fits
unfolding member escape_byte
returns-else-fits c = rw c.if-fits.false refl
