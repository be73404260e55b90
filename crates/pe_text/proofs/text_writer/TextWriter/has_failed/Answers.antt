use Rattle.pe_text.proofs.Adding.{tells_failure, takes-no-more}
use Rattle.pe_text.proofs.text_writer.TextWriter.has_failed.Goals as goal

pub returns-clause-tells : goal.returns-clause-tells
returns-clause-tells g c = tells_failure g.W.Sink.taken g.W.Sink.failures c.args.self.now

pub returns-clause-ends : goal.returns-clause-ends
returns-clause-ends g c = takes-no-more g.W.Sink.taken g.W.Sink.failures c.args.self.now
