use Rattle.std.proofs.Common.{codes}
use Rattle.json.specs.Print.{escape_byte}
use Rattle.pe_json.specs.JsonText.{member, number}
use Rattle.pe_json.specs.ExportRows.{export_row}
use Rattle.pe_json.proofs.Objects.{objects, also}
use Rattle.pe_json.proofs.exports.write_row.Goals as goal

pub returns : goal.returns
unfolding export_row member escape_byte
returns g c = objects (number (codes "ordinal") c.args.ordinal) _ c.write_number.ensures (also _ _ c.write_name_if.ensures c.write_target.ensures) c.text.ensures
