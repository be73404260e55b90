use Rattle.pe_json.specs.Sections.{short_name}
use Rattle.pe_json.proofs.sections.write_short.Goals as goal

pub returns : goal.returns
unfolding short_name
returns g c = rw (← c.without_zeros-short.ensures, ← c.eq.ensures) c.write_short_unless.ensures
