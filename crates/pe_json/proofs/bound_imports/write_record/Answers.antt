use Rattle.std.proofs.Common.{codes}
use Rattle.json.specs.Print.{escape_byte}
use Rattle.pe_json.specs.JsonText.{member, number}
use Rattle.pe_json.proofs.Objects.{also, objects}
use Rattle.pe_json.proofs.bound_imports.write_record.Goals as goal

pub returns : goal.returns
unfolding member escape_byte
returns g c =
    let name = rw c.module_at.ensures at c.write_module.ensures in
    objects (number (codes "time_date_stamp") c.args.import.now.time_date_stamp) _ c.write_number.ensures (also _ _ c.write_numbers.ensures name) c.text.ensures
