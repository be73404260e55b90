use Rattle.std.proofs.Common.{ℕ, List, [], ◌≡◌, ◌∙◌, ◌<◌, ◌+◌, ◌∷◌, ◌++◌, length, take, slice_index_or, append_assoc, ap, sym, rules}
use Rattle.std.proofs.lemmas.List.{take_more}
use Rattle.petool.proofs.word_bytes.push_bytes.Goals as goal

pub loop-byte-preserved : goal.loop-byte-preserved
loop-byte-preserved g c done positive spells =
    let bytes = c.args.bytes.now in
    let at = c.loop-byte.byte-index in
    let inside : at < length bytes = search rules in
    let byte = slice_index_or bytes at 0 in
    let more : take (at + 1) bytes ≡ take at bytes ++ byte ∷ [] = take_more bytes at 0 inside in
    let grown : done ++ take (at + 1) bytes ≡ (done ++ take at bytes) ++ byte ∷ [] = ap (λ (l : List ℕ). done ++ l) more ∙ sym (append_assoc done (take at bytes) (byte ∷ [])) in
    rw grown (c.push_byte.ensures (search rules) (done ++ take at bytes) (positive at 0 inside) (c.loop-byte.invariant done positive spells))
