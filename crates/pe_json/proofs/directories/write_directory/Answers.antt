use Rattle.std.proofs.Common.{refl, codes}
use Rattle.json.specs.Print.{escape_byte}
use Rattle.pe_json.specs.JsonText.{member, number}
use Rattle.pe_json.proofs.Objects.{texted, also, objects}
use Rattle.pe_json.proofs.directories.write_directory.Goals as goal

pub returns : goal.returns
unfolding member escape_byte
returns g c =
    let name = rw c.directory_name.ensures at (rw (texted _ (codes "name") _ refl) at c.write_text_if.ensures) in
    objects (number (codes "index") c.args.index) _ c.write_number.ensures (also _ _ name c.write_place.ensures) c.text.ensures
