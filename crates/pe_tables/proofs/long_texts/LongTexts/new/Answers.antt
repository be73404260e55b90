-- No node, and no path.
use Rattle.pe_tables.proofs.LongPaths.{nothing_known}
use Rattle.pe_tables.proofs.long_texts.LongTexts.new.Goals as goal

pub returns-clause-known : goal.returns-clause-known
returns-clause-known g c = λ file. nothing_known file _ c.new.ensures.items c.new-2.ensures.empty
