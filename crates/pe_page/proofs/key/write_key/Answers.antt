use Rattle.pe_text.proofs.Adding.{◌then◌}
use Rattle.pe_page.specs.Rows.{key_text}
use Rattle.pe_page.proofs.key.write_key.Goals as goal

pub returns-in-Ordinal : goal.returns-in-Ordinal
unfolding key_text
returns-in-Ordinal g c = rw c.in-Ordinal.is (c.text.ensures then c.decimal.ensures)

pub returns-in-Name : goal.returns-in-Name
unfolding key_text
returns-in-Name g c = rw c.in-Name.is c.write_name.ensures
