-- Each field is above the one before it, and so above all before it.
use Rattle.std.proofs.Common.{◌≡◌, ℕ, zero, suc, ◌+◌, ◌<◌, Bool, true, false, List, length, get_or, inl, inr, refl, sym, subst, arith, rules}
use Rattle.std.specs.Prelude.{IsTrue, nat_lt, ◌↔◌}
use Rattle.std.specs.List.{AllAdjacentBelow, IsAllAdjacentAnswer}
use Rattle.std.proofs.lemmas.Bool.{cases_lt, ltb-true, ltb-false}
use Rattle.std.proofs.lemmas.List.Sorted.{answers_always}
use Rattle.pe_tables.specs.Encoded.{FieldsAscend}
use Rattle.pe_tables.specs.declared.fixups.Fixup.{Fixup}
use Rattle.pe_tables.specs.declared.fixups.FixupKind.TheVariants.{Bits32}
use Rattle.pe_tables.proofs.encode.ascending.Goals as goal

-- a fixup, for a list of them to be read by
abbrev no_fixup : Fixup
no_fixup = record { entry = 0; field = 0; kind = Bits32 }

rising : (xs : List Fixup) → AllAdjacentBelow (λ f g. f.field < g.field) xs (length xs) → FieldsAscend xs
rising xs next i zero d lt inside = absurd (omega arith)
rising xs next i (suc j) d lt inside =
    let n : j + 1 ≡ suc j = omega arith in
    let last : (get_or xs j d).field < (get_or xs (suc j) d).field = subst (λ (k : ℕ). (get_or xs j d).field < (get_or xs k d).field) n (next j d (omega arith)) in
    elim (cases_lt i j) [
      | inl below ↦ (let before = rising xs next i j d below (omega arith) in omega arith)
      | inr past ↦ (let here : j ≡ i = omega arith in subst (λ (k : ℕ). (get_or xs k d).field < (get_or xs (suc j) d).field) here last)
    ]

by : (xs : List Fixup) (result : Bool) → IsAllAdjacentAnswer (λ f g b. b ≡ nat_lt f.field g.field) xs result → IsTrue result ↔ FieldsAscend xs
by xs true answer = ((λ is. rising xs (λ k d lt. ltb-true _ _ (sym (answer k d lt)))), λ ascend. refl)
by xs false answer = (
  λ is. absurd cc,
  λ ascend. (let fails = ltb-false _ _ (sym (answer.2 no_fixup)) in let up = ascend answer.0 (answer.0 + 1) no_fixup (omega arith) answer.1 in absurd (omega (arith, fails, up))),
)

pub returns : goal.returns
returns c = by c.args.fixups.now c.is_sorted_by.result (c.is_sorted_by.ensures.cases (λ f g. nat_lt f.field g.field) (answers_always _ _ _ (λ f a r q k. search rules)))
