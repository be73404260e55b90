use Rattle.std.proofs.Common.{[], ◌≡◌, ◌∷◌, ◌++◌, string_bytes, rules}
use Rattle.std.specs.Char.{encode_utf8}
use Rattle.petool.proofs.WordBytes.{one_byte, spells_marked, spells_text}
use Rattle.petool.proofs.word_bytes.push_byte.Goals as goal

pub returns-then-is_ascii : goal.returns-then-is_ascii
returns-then-is_ascii g c ok done positive spells =
    let byte = c.args.byte in
    let string : string_bytes c.push.new.self ≡ string_bytes c.args.word.now ++ byte ∷ [] = search rules in
    rw string (spells_text (string_bytes c.args.word.now) done (byte ∷ []) (one_byte byte positive) spells)

pub returns : goal.returns
returns g c ok done positive spells =
    let byte = c.args.byte in
    let string : string_bytes c.push-3.new.self ≡ (string_bytes c.args.word.now ++ 0 ∷ []) ++ encode_utf8 byte = search rules in
    rw string (spells_marked (string_bytes c.args.word.now) done byte (search rules) (search rules) spells)
