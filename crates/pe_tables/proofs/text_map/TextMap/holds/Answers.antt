-- A string is in the run, or among the others.
use Rattle.std.proofs.Common.{◌≡◌, ◌∙◌, List, [], ◌∷◌, length, ap, sym, refl, arith, true, false}
use Rattle.std.specs.Prelude.{is_some, ◌||◌}
use Rattle.pe_tables.specs.TextMap.{found}
use Rattle.pe_tables.specs.TextMapView.{entries_in}
use Rattle.pe_tables.proofs.TextMap.{by_bytes}
use Rattle.pe_tables.proofs.TextRun.{found-either}
use Rattle.pe_tables.proofs.text_map.TextMap.holds.Goals as goal

none_left : {X : Type 0} (xs : List X) → length xs ≡ 0 → xs ≡ []
none_left [] none = refl
none_left (x ∷ xs) none = absurd (omega (arith, none))

pub returns-then-is_in : goal.returns-then-is_in
unfolding entries_in
returns-then-is_in g c =
    let map = c.args.self.now in
    let there : is_some (found c.args.text.now map.run.items) ≡ true = ap (λ r. is_some (found c.args.text.now r)) (sym c.as_slice.ensures.value) ∙ sym c.if-is_in.ensures in
    sym (found-either c.args.text.now map.run.items map.others.entries ∙ ap (λ b. b || is_some (found c.args.text.now map.others.entries)) there)

pub returns : goal.returns
unfolding entries_in
returns g c =
    let map = c.args.self.now in
    let absent : is_some (found c.args.text.now map.run.items) ≡ false = ap (λ r. is_some (found c.args.text.now r)) (sym c.as_slice.ensures.value) ∙ sym c.if-is_in.ensures in
    c.is_some.ensures ∙ ap is_some (c.copied.ensures ∙ c.get.ensures.value ∙ by_bytes c.args.text.now map.others.entries)
    ∙ sym (found-either c.args.text.now map.run.items map.others.entries ∙ ap (λ b. b || is_some (found c.args.text.now map.others.entries)) absent)

pub returns-then-is_empty : goal.returns-then-is_empty
unfolding entries_in
returns-then-is_empty g c =
    let map = c.args.self.now in
    let absent : is_some (found c.args.text.now map.run.items) ≡ false = ap (λ r. is_some (found c.args.text.now r)) (sym c.as_slice.ensures.value) ∙ sym c.if-is_in.ensures in
    sym (found-either c.args.text.now map.run.items map.others.entries ∙ ap (λ b. b || is_some (found c.args.text.now map.others.entries)) absent ∙ ap (λ entries. is_some (found c.args.text.now entries)) (none_left map.others.entries (c.if-is_empty.ensures.0 refl)))
