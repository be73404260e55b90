use Rattle.pe_page.proofs.Adding.{none, ◌and◌}
use Rattle.pe_resource_pages.proofs.summary.write_description.Goals as goal

pub returns : goal.returns
returns g c = (_, c.text.ensures) and c.write_short_text.ensures and (_, c.text-2.ensures)

pub returns-in_default : goal.returns-in_default
returns-in_default g c = none g.W.Sink.taken g.W.Sink.failures _ c.requires
