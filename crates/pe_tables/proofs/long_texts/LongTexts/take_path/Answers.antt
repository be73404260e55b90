-- The path that is taken out was that of a string, and the others remain.
use Rattle.std.proofs.Common.{refl, sym}
use Rattle.pe_tables.proofs.LongPaths.{one_less}
use Rattle.pe_tables.proofs.long_texts.LongTexts.take_path.Goals as goal

pub returns-in-Some-clause-path : goal.returns-in-Some-clause-path
returns-in-Some-clause-path g c = λ file known. known.paths c.args.end c.in-Some.path (sym c.in-Some.ensures.value)

pub returns-in-Some-clause-known : goal.returns-in-Some-clause-known
returns-in-Some-clause-known g c = λ file known. one_less file c.args.self.now _ c.args.end known refl c.remove.ensures.updates.0

pub returns-in-None-clause-known : goal.returns-in-None-clause-known
returns-in-None-clause-known g c = λ file known. one_less file c.args.self.now _ c.args.end known refl c.remove.ensures.updates.0
