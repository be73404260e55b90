use Rattle.petool_page.proofs.Numbered.{keeps_number, puts_bytes}
use Rattle.petool_page.proofs.engines.archive_into.Goals as goal

pub returns-clause-same : goal.returns-clause-same
returns-clause-same c = keeps_number _ _ _ _ _ _ _ _ c.archive_text.ensures.puts

pub returns-clause-puts : goal.returns-clause-puts
returns-clause-puts c = puts_bytes _ _ _ _ _ _ _ _ c.archive_text.ensures.puts
