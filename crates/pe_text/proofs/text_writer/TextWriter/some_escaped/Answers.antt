use Rattle.pe_text.proofs.Plain.{plain_text}
use Rattle.pe_text.proofs.text_writer.TextWriter.some_escaped.Goals as goal

pub returns-clause-adds : goal.returns-clause-adds
returns-clause-adds g c = rw (plain_text c.plain_len-plain.result c.args.bytes.now c.plain_len-plain.ensures.within c.plain_len-plain.ensures.plain) c.text.ensures
