-- The strings are equal from their ends on as far as they were compared.
use Rattle.std.proofs.Common.{◌≡◌, ◌∙◌, ℕ, ◌+◌, ◌-◌, ◌≤◌, List, ◌++◌, true, take, drop, sym, ap, arith, rules}
use Rattle.std.specs.Prelude.{slice_range}
use Rattle.std.specs.Str.{bytes_eq}
use Rattle.std.proofs.lemmas.Bool.Decides.{Decides-like, same_from_decides}
use Rattle.std.proofs.lemmas.List.{drop-drop, take-append-drop}
use Rattle.std.proofs.lemmas.Slice.Eq.{bytes_eq-Decides}
use Rattle.pe_tables.proofs.export_lookup.is_same.Goals as goal

-- a part of a string and the bytes after it
parts : (text : List ℕ) (start end : ℕ) → start ≤ end → drop start text ≡ slice_range text start end ++ drop end text
parts text start end le =
    let there : start + (end - start) ≡ end = omega (arith, le) in
    sym (take-append-drop (end - start) (drop start text))
    ∙ ap (λ (bytes : List ℕ). take (end - start) (drop start text) ++ bytes) (drop-drop (end - start) start text ∙ ap (λ (n : ℕ). drop n text) there)

pub loop-part-preserved : goal.loop-part-preserved
loop-part-preserved c =
    let text = c.args.text.now in
    let other = c.args.other.now in
    let end : ℕ = c.loop-part.end in
    let start : ℕ = end - c.loop-part.part in
    let bound = c.loop-part.invariant.bound in
    let block : bytes_eq (slice_range text start end) (slice_range other start end) ≡ true = search rules in
    let same = (bytes_eq-Decides (slice_range text start end) (slice_range other start end)).0 block in
    let le : start ≤ end = omega arith in
    record {
      bound = omega (arith, bound);
      len = c.loop-part.invariant.len;
      some = let twice = c.saturating_mul-part.ensures in let some = c.loop-part.invariant.some in omega (arith, twice, some);
      same =
          parts text start end le ∙ ap (λ (bytes : List ℕ). bytes ++ drop end text) same
          ∙ ap (λ (bytes : List ℕ). slice_range other start end ++ bytes) c.loop-part.invariant.same ∙ sym (parts other start end le);
    }

pub returns : goal.returns
returns c =
    let text = c.args.text.now in
    let other = c.args.other.now in
    let end : ℕ = c.loop-part.end in
    let behind = c.loop-part.invariant.same in
    let decides = bytes_eq-Decides (take end text) (take end other) in
    c.eq.ensures ∙ same_from_decides _ _
    (Decides-like (bytes_eq (take end text) (take end other))
    (λ same. sym (take-append-drop end text) ∙ ap (λ (bytes : List ℕ). bytes ++ drop end text) same ∙ ap (λ (bytes : List ℕ). take end other ++ bytes) behind ∙ take-append-drop end other)
    (λ same. ap (take end) same) decides)
    (bytes_eq-Decides text other)
