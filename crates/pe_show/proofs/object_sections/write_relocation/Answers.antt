use Rattle.pe_text.proofs.Adding.{◌then◌}
use Rattle.pe_show.specs.Rows.{relocation_row}
use Rattle.pe_show.proofs.object_sections.write_relocation.Goals as goal

pub returns : goal.returns
unfolding relocation_row
returns g c =
    c.text.ensures then (c.hex_at_least.ensures then (c.write_file_offset.ensures then (c.text-2.ensures then (c.write_type.ensures then (c.text-3.ensures
    then (c.decimal.ensures then (c.write_symbol_name.ensures then c.text-4.ensures)))))))
