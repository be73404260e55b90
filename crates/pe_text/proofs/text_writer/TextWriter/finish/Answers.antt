use Rattle.pe_text.proofs.Adding.{ends-failed, ends-whole}
use Rattle.pe_text.proofs.text_writer.TextWriter.finish.Goals as goal

pub returns-then-self-clause-written : goal.returns-then-self-clause-written
returns-then-self-clause-written g c = ends-failed g.W.Sink.taken g.W.Sink.failures _ _ c.flush.ensures.adds c.if-self.true

pub returns-else-self-clause-written : goal.returns-else-self-clause-written
returns-else-self-clause-written g c = ends-whole g.W.Sink.taken g.W.Sink.failures _ _ c.flush.ensures.adds c.flush.ensures.empty c.if-self.false
