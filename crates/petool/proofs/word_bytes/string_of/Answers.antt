use Rattle.std.proofs.Common.{ℕ, List, [], ◌≡◌, ◌∙◌, ◌<◌, ◌++◌, ap, append_assoc, append-nil, string_bytes, sym, rules}
use Rattle.std.specs.List.{All}
use Rattle.std.specs.Str.Chunks.{utf8_chunks_rest}
use Rattle.petool.specs.WordBytes.{Spells, word_bytes}
use Rattle.petool.proofs.WordBytes.{all_first, all_second, no_bytes, spells_text}
use Rattle.petool.proofs.word_bytes.string_of.Goals as goal

pub loop-chunk-preserved : goal.loop-chunk-preserved
loop-chunk-preserved g c =
    let done = c.loop-chunk.invariant.0 in
    let valid = c.valid.result.now in
    let invalid = c.invalid.result.now in
    let rest = utf8_chunks_rest c.next.new.self in
    let split : utf8_chunks_rest c.loop-chunk.chunk-iterator ≡ valid ++ (invalid ++ rest) = search rules in
    let whole : done ++ (valid ++ (invalid ++ rest)) ≡ c.args.bytes.now = ap (λ (l : List ℕ). done ++ l) (sym split) ∙ c.loop-chunk.invariant.1 in
    let regrouped : ((done ++ valid) ++ invalid) ++ rest ≡ done ++ (valid ++ (invalid ++ rest)) = append_assoc (done ++ valid) invalid rest ∙ append_assoc done valid (invalid ++ rest) in (
      (done ++ valid) ++ invalid,
      regrouped ∙ whole,
      λ positive.
          let parts : All (λ b. 0 < b) (valid ++ (invalid ++ rest)) = all_second done (valid ++ (invalid ++ rest)) (rw whole positive) in
          let string : string_bytes c.push_str.new.self ≡ string_bytes c.loop-chunk.word ++ valid = search rules in
          let before : Spells (string_bytes c.push_str.new.self) (done ++ valid) = rw string (spells_text (string_bytes c.loop-chunk.word) done valid (all_first valid (invalid ++ rest) parts) (c.loop-chunk.invariant.2 positive)) in
          c.push_bytes.ensures (search rules) (done ++ valid) (all_first invalid rest (all_second valid (invalid ++ rest) parts)) before,
    )

pub returns : goal.returns
unfolding word_bytes
returns g c positive =
    let done = c.loop-chunk.invariant.0 in
    let word = string_bytes c.loop-chunk.word in
    let rest : utf8_chunks_rest c.loop-chunk.chunk-iterator ≡ [] = no_bytes (utf8_chunks_rest c.loop-chunk.chunk-iterator) (search rules) in
    let whole : done ++ [] ≡ c.args.bytes.now = ap (λ (l : List ℕ). done ++ l) (sym rest) ∙ c.loop-chunk.invariant.1 in
    ap word_bytes (sym (append-nil word)) ∙ c.loop-chunk.invariant.2 positive [] ∙ whole
