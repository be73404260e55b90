use Rattle.std.proofs.Common.{refl, codes}
use Rattle.json.specs.Print.{escape_byte}
use Rattle.pe_json.specs.JsonText.{member, number}
use Rattle.pe_json.proofs.Objects.{texted, also, objects}
use Rattle.pe_json.proofs.debug.write_entry.Goals as goal

pub returns : goal.returns
unfolding member escape_byte
returns g c =
    let name = rw c.debug_type_name.ensures at (rw (texted _ (codes "type_name") _ refl) at c.write_text_if.ensures) in
    objects (number (codes "characteristics") c.args.entry.now.characteristics) _ c.write_number.ensures (also _ _ c.write_type.ensures (also _ _ name c.write_data.ensures)) c.text.ensures
