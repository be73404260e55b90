use Rattle.std.proofs.Common.{refl, codes}
use Rattle.json.specs.Print.{escape_byte}
use Rattle.pe_text.proofs.Adding.{◌then◌}
use Rattle.pe_json.specs.JsonText.{with_commas, member, object}
use Rattle.pe_json.specs.TableRows.{import_row}
use Rattle.pe_json.proofs.Objects.{named}
use Rattle.pe_json.proofs.tables.write_import.Goals as goal

pub returns : goal.returns
unfolding import_row object with_commas member escape_byte
returns g c =
    let name = rw (named _ (codes "{") (codes "module") _ _ _ refl refl) at c.write_name.ensures in
    name then (c.text.ensures then (c.write_key.ensures then (c.text-2.ensures then c.decimal.ensures))) then c.text-3.ensures
