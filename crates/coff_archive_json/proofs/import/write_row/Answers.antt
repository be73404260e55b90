use Rattle.std.proofs.Common.{refl, codes}
use Rattle.json.specs.Print.{escape_byte}
use Rattle.pe_json.specs.JsonText.{member, number}
use Rattle.pe_json.proofs.Objects.{texted, also, objects}
use Rattle.coff_archive_json.proofs.import.write_row.Goals as goal

pub returns : goal.returns
unfolding member escape_byte
returns g c =
    let machine = rw c.machine_name.ensures at (rw (texted _ (codes "machine_name") _ refl) at c.write_text_if.ensures) in
    let imported = rw c.import_name.ensures at c.write_imported.ensures in
    objects (number (codes "machine") c.args.import.now.machine) _ c.write_number.ensures (also _ _ machine (also _ _ c.write_texts.ensures (also _ _ imported c.write_types.ensures))) c.text.ensures
