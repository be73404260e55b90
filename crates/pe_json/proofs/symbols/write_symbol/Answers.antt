use Rattle.std.proofs.Common.{refl, codes}
use Rattle.json.specs.Print.{escape_byte}
use Rattle.pe_json.specs.JsonText.{member, number}
use Rattle.pe_json.proofs.Objects.{texted, also, objects}
use Rattle.pe_json.proofs.symbols.write_symbol.Goals as goal

pub returns : goal.returns
unfolding member escape_byte
returns g c =
    let name = rw c.storage_class_name.ensures at (rw (texted _ (codes "storage_class_name") _ refl) at c.write_text_if.ensures) in
    objects (number (codes "index") c.args.index) _ c.write_number.ensures (also _ _ c.write_symbol_name.ensures (also _ _ c.write_fields.ensures (also _ _ name c.write_aux_list.ensures))) c.text.ensures
