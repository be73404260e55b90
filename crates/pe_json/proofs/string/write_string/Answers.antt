use Rattle.std.proofs.Common.{sym, ◌∙◌}
use Rattle.pe_json.proofs.Shown.{plain_same}
use Rattle.pe_json.proofs.string.write_string.Goals as goal

pub returns-then-is_plain_text : goal.returns-then-is_plain_text
returns-then-is_plain_text g c =
    let plain = sym c.is_plain_text.ensures ∙ c.if-is_plain_text.true in
    let bytes = c.as_bytes-bytes.ensures in
    rw (← bytes.value) (rw (plain_same c.as_bytes-bytes.result.now bytes.utf8 plain) c.text.ensures)
