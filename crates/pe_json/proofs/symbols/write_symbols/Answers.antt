use Rattle.pe_text.proofs.Adding.{◌then◌}
use Rattle.pe_json.specs.JsonText.{list}
use Rattle.pe_json.proofs.symbols.write_symbols.Goals as goal

pub returns : goal.returns
unfolding list
returns g c = c.text.ensures then c.write_rows.ensures then c.text-2.ensures
