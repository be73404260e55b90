-- The last zero byte is found from the end.
use Rattle.pe_view.specs.View.{bytes_of}
use Rattle.coff_read.proofs.TextsEnd.{texts_end}
use Rattle.coff_read.proofs.tables.texts_len.Goals as goal

pub returns-in-Some : goal.returns-in-Some
returns-in-Some c = λ offset. texts_end (bytes_of c.args.view) c.args.start c.args.size offset _ _ _ c.requires (rw c.unwrap-bytes.ensures at c.slice.ensures.value) c.rfind_byte.ensures c.in-Some.is

pub returns-in-None : goal.returns-in-None
returns-in-None c = λ offset. texts_end (bytes_of c.args.view) c.args.start c.args.size offset _ _ _ c.requires (rw c.unwrap-bytes.ensures at c.slice.ensures.value) c.rfind_byte.ensures c.in-None.is
