use Rattle.std.proofs.Common.{◌≤◌, ◌∙◌, append-nil, arith}
use Rattle.std.proofs.lemmas.Str.{encode_ascii}
use Rattle.json.specs.Print.{escape_byte}
use Rattle.pe_json.proofs.Shown.{many_bytes}
use Rattle.pe_json.proofs.string.write_seen.Goals as goal

pub returns : goal.returns
returns g c =
    let least : 128 ≤ c.args.character = omega arith in
    rw (many_bytes c.args.character c.ranges.character.0 least) (rw (c.as_bytes.ensures.value ∙ c.encode_utf8.ensures.value) at c.text.ensures)

pub returns-then-character-lt128 : goal.returns-then-character-lt128
returns-then-character-lt128 g c = rw (encode_ascii c.args.character c.if-character-lt128.true, append-nil (escape_byte c.args.character)) c.write_byte.ensures
