use Rattle.std.proofs.Common.{refl}
use Rattle.pe_text.proofs.Adding.{Adds-held}
use Rattle.pe_text.proofs.text_writer.TextWriter.text.Goals as goal

pub returns-in-Ok : goal.returns-in-Ok
returns-in-Ok g c = Adds-held g.W.Sink.taken g.W.Sink.failures _ _ _ c.requires refl c.in-Ok.ensures.ok refl
