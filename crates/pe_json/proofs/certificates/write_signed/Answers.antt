use Rattle.std.proofs.Common.{codes, refl}
use Rattle.json.specs.Print.{escape_byte}
use Rattle.pe_text.specs.TextWriter.{Adds}
use Rattle.pe_json.specs.CertificateRows.{digest_member}
use Rattle.pe_json.specs.JsonText.{member, hex_string}
use Rattle.pe_json.specs.Listed.{more}
use Rattle.pe_json.proofs.Objects.{adds_none, also, ended, texted}
use Rattle.pe_json.proofs.certificates.write_signed.Goals as goal

pub returns-clause-adds : goal.returns-clause-adds
unfolding digest_member more member hex_string escape_byte
returns-clause-adds g c =
    let name = rw (c.algorithm_name.ensures, c.known_algorithm.ensures) at (rw (texted _ (codes "digest_algorithm") _ refl) at c.write_text_if.ensures) in
    let digest : Adds g.W.Sink.taken g.W.Sink.failures c.write_text_if.new.text c.write_hex.new.text (more (digest_member c.in-Some.signed.digest.now)) = ended c.write_hex.ensures in
    let fits = rw c.fits.ensures.value at c.write_fits.ensures in
    rw c.in-Some.is (also _ _ name (also (digest_member c.in-Some.signed.digest.now) _ digest fits))

pub returns-in_default-clause-adds : goal.returns-in_default-clause-adds
unfolding more
returns-in_default-clause-adds g c = rw c.in_default.is (adds_none c.requires.ready)
