use Rattle.std.proofs.Common.{[], refl}
use Rattle.pe_text.proofs.Adding.{Adds-written, Adds-failed}
use Rattle.pe_text.proofs.text_writer.TextWriter.flush.Goals as goal

pub returns-clause-adds : goal.returns-clause-adds
returns-clause-adds g c =
    Adds-written g.W.Sink.taken g.W.Sink.failures _ _ c.write_all-result.result c.requires c.if-self.false refl c.clear-2.ensures c.is_err-self.ensures.value
    (rw c.as_slice.ensures.value at c.write_all-result.ensures)

pub returns-then-self-clause-adds : goal.returns-then-self-clause-adds
returns-then-self-clause-adds g c = Adds-failed g.W.Sink.taken g.W.Sink.failures _ _ [] c.if-self.true refl refl
