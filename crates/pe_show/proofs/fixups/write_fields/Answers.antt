use Rattle.pe_text.proofs.Adding.{◌then◌}
use Rattle.pe_show.specs.Rows.{fields_row}
use Rattle.pe_show.proofs.fixups.write_fields.Goals as goal

pub returns : goal.returns
unfolding fields_row
returns g c =
    let word = rw c.kind_word.ensures at c.text-3.ensures in
    c.text.ensures then (c.hex_at_least.ensures then (c.text-2.ensures then (word then (c.text-4.ensures then (c.write_each.ensures then c.text-5.ensures)))))
