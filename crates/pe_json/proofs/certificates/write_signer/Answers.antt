use Rattle.std.proofs.Common.{codes, refl}
use Rattle.json.specs.Print.{escape_byte}
use Rattle.pe_json.specs.JsonText.{member, hex_string}
use Rattle.pe_json.proofs.Objects.{also, name_given, objects}
use Rattle.pe_json.proofs.certificates.write_signer.Goals as goal

pub returns : goal.returns
unfolding member hex_string escape_byte
returns g c =
    let s = c.args.signer.now in
    let subject = rw c.common_name.ensures at (rw (name_given _ _ (codes "subject") _ refl refl) at c.write_name_if.ensures) in
    let issuer = rw c.common_name-2.ensures at (rw (name_given _ _ (codes "issuer") _ refl refl) at c.write_name_if-2.ensures) in
    objects (member (codes "serial_hex") (hex_string s.serial.now)) _ c.write_hex.ensures (also _ _ subject issuer) c.text.ensures
