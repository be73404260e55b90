use Rattle.pe_json.specs.CertificateRows.{fits_if}
use Rattle.pe_json.specs.Listed.{more}
use Rattle.pe_json.proofs.Objects.{adds_none, ended}
use Rattle.pe_json.proofs.certificates.write_fits.Goals as goal

pub returns : goal.returns
unfolding fits_if more
returns g c = rw c.in-Some.is (ended (rw c.fits_member.ensures at c.text.ensures))

pub returns-in_default : goal.returns-in_default
unfolding fits_if more
returns-in_default g c = rw c.in_default.is (adds_none c.requires)
