use Rattle.pe_page.proofs.Adding.{none}
use Rattle.pe_record_pages.proofs.functions.write_functions.Goals as goal

pub returns-else-count-gt0 : goal.returns-else-count-gt0
returns-else-count-gt0 g c = none g.W.Sink.taken g.W.Sink.failures _ c.requires
