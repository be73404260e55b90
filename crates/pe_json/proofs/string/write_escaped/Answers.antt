use Rattle.std.proofs.Common.{sym, ◌∙◌}
use Rattle.pe_json.proofs.Escapes.{plain_string}
use Rattle.pe_json.proofs.string.write_escaped.Goals as goal

pub returns-then-is_plain_text : goal.returns-then-is_plain_text
returns-then-is_plain_text g c = rw (plain_string c.args.bytes.now (sym c.is_plain_text.ensures ∙ c.if-is_plain_text.true)) c.text.ensures
