use Rattle.pe_page.proofs.Adding.{none, ◌and◌}
use Rattle.pe_resource_pages.proofs.identity.write_versions.Goals as goal

pub returns : goal.returns
returns g c = (_, c.text.ensures) and c.write_number.ensures and (_, c.text-2.ensures) and c.write_number-2.ensures and (_, c.text-3.ensures)

pub returns-in_default : goal.returns-in_default
returns-in_default g c = none g.W.Sink.taken g.W.Sink.failures _ c.requires
