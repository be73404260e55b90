use Rattle.pe_text.proofs.Adding.{◌then◌}
use Rattle.pe_json.proofs.tables.write_fields.Goals as goal

pub returns : goal.returns
returns g c =
    let kind = rw c.kind_end.ensures at c.text-2.ensures in
    c.text.ensures then (c.decimal.ensures then kind)
