use Rattle.pe_text.proofs.Adding.{◌then◌}
use Rattle.pe_json.proofs.Escapes.{control}
use Rattle.pe_json.proofs.string.write_byte.Goals as goal

pub returns-then-byte-lt32 : goal.returns-then-byte-lt32
returns-then-byte-lt32 g c =
    rw (control c.args.byte _ c.escape_letter-letter.ensures c.if-letter-gt0.false c.if-byte-lt32.true) (c.text-then-byte-lt32.ensures then c.hex.ensures)
