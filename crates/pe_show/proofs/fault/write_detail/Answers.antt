use Rattle.pe_page.proofs.Adding.{none, ◌and◌}
use Rattle.pe_show.proofs.fault.write_detail.Goals as goal

pub returns : goal.returns
returns g c = (_, c.write_parts.ensures) and (_, c.write_parts-2.ensures) and (_, c.write_parts-3.ensures) and (_, c.write_parts-4.ensures)

pub returns-in_default : goal.returns-in_default
returns-in_default g c = none g.W.Sink.taken g.W.Sink.failures _ c.requires
