use Rattle.std.proofs.Common.{codes, refl}
use Rattle.json.specs.Print.{escape_byte}
use Rattle.pe_json.specs.JsonText.{member, number}
use Rattle.pe_json.proofs.Objects.{also, objects, texted}
use Rattle.pe_json.proofs.certificates.write_certificate.Goals as goal

pub returns-clause-adds : goal.returns-clause-adds
unfolding member escape_byte
returns-clause-adds g c =
    let typed = rw c.type_name.ensures at (rw (texted _ (codes "type_name") _ refl) at c.write_text_if.ensures) in
    objects (number (codes "offset") c.args.certificate.now.offset) _ c.write_number.ensures (also _ _ c.write_numbers.ensures (also _ _ typed c.write_signature.ensures.adds)) c.text.ensures
