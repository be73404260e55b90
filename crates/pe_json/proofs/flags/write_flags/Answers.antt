use Rattle.pe_text.proofs.Adding.{◌then◌}
use Rattle.pe_json.proofs.flags.write_flags.Goals as goal

pub returns : goal.returns
returns g c = c.text.ensures then (c.write_items.ensures then c.text-2.ensures)
