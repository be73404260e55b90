-- A set without a fault of its names has few images, and no two with one name.
use Rattle.std.proofs.Common.{◌≡◌, ◌∙◌, ◌+◌, ◌≤◌, ℕ, zero, suc, List, [], ◌∷◌, length, take, get_or, Option, None, Some, refl, sym, ap, arith, inl, inr}
use Rattle.std.specs.Prelude.{slice_get, option_map, ◌||◌}
use Rattle.std.specs.List.{list_any}
use Rattle.std.proofs.lemmas.Bool.{cases_lt}
use Rattle.std.proofs.lemmas.Option.{slice_get-get_or, same_Some}
use Rattle.pe_view.specs.Faults.{Test, first_standing}
use Rattle.pe_view.specs.FirstStanding.{none-append, none_stands}
use Rattle.pe_set.specs.Numbered.{numbered}
use Rattle.pe_set.specs.NamesView.{AreDistinct}
use Rattle.pe_set.specs.Set.{Entry, Module, module_of, modules_from, modules_of, same_name}
use Rattle.pe_set.specs.SetFaults.{name_tests, names_tests}

-- if no test holds, none of item i does
pub numbered_none : {X : Type 0} (f : ℕ → X → List Test) (n : ℕ) (xs : List X) (i : ℕ) (x : X) → first_standing (numbered f n xs) ≡ None → slice_get xs i ≡ Some x → first_standing (f (n + i) x) ≡ None
numbered_none f n [] i x none at = absurd cc
numbered_none f n (y ∷ xs) zero x none at =
    let here : n ≡ n + zero = omega arith in
    sym (ap (λ k. first_standing (f k x)) here) ∙ ap (λ z. first_standing (f n z)) (sym (same_Some y x at)) ∙ (none-append (f n y) (numbered f (n + 1) xs) none).0
numbered_none f n (y ∷ xs) (suc i) x none at =
    let there : n + 1 + i ≡ n + suc i = omega arith in
    sym (ap (λ k. first_standing (f k x)) there) ∙ numbered_none f (n + 1) xs i x (none-append (f n y) (numbered f (n + 1) xs) none).1 at

no_entry : Entry
no_entry = record { name = []; file = []; base = 0 }

too_many : (es : List Entry) (e : Entry) → first_standing (name_tests es 256 e) ≡ None → ⊥
too_many es e none = cc

pub few_entries : (es : List Entry) → first_standing (names_tests es) ≡ None → length es ≤ 256
unfolding names_tests
few_entries es none = elim (cases_lt 256 (length es)) [
  | inl more ↦ absurd (too_many es (get_or es 256 no_entry) (numbered_none (name_tests es) 0 es 256 (get_or es 256 no_entry) none (slice_get-get_or es 256 no_entry more)))
  | inr few ↦ few
]

-- image i is that of entry i
pub module_at : (n : ℕ) (es : List Entry) (i : ℕ) → slice_get (modules_from n es) i ≡ option_map (module_of (n + i)) (slice_get es i)
module_at n [] i = refl
module_at n (e ∷ es) zero = let here : n ≡ n + zero = omega arith in ap (λ k. Some (module_of k e)) here
module_at n (e ∷ es) (suc i) = let there : n + 1 + i ≡ n + suc i = omega arith in module_at (n + 1) es i ∙ ap (λ k. option_map (module_of k) (slice_get es i)) there

names_before : (n i : ℕ) (es : List Entry) (name : List ℕ)
    → list_any (λ (before : Module). same_name name before.name) (take i (modules_from n es)) ≡ list_any (λ (before : Entry). same_name name before.name) (take i es)
names_before n zero es name = refl
names_before n (suc i) [] name = refl
names_before n (suc i) (e ∷ es) name = ap (λ b. same_name name e.name || b) (names_before (n + 1) i es name)

of_entry : (i : ℕ) (o : Option Entry) (m : Module) → option_map (module_of i) o ≡ Some m → (e : Entry) × (o ≡ Some e) × (m ≡ module_of i e)
of_entry i None m is = absurd cc
of_entry i (Some e) m is = (e, refl, sym (same_Some (module_of i e) m is))

pub entry_at : (es : List Entry) (i : ℕ) (m : Module) → slice_get (modules_from 0 es) i ≡ Some m → (e : Entry) × (slice_get es i ≡ Some e) × (m ≡ module_of i e)
entry_at es i m at =
    let here : 0 + i ≡ i = omega arith in
    of_entry i (slice_get es i) m (ap (λ k. option_map (module_of k) (slice_get es i)) (sym here) ∙ sym (module_at 0 es i) ∙ at)

pub distinct : (es : List Entry) → first_standing (names_tests es) ≡ None → AreDistinct (modules_of es)
unfolding names_tests modules_of
distinct es none = λ i m at.
    let from = entry_at es i m at in
    let e = from.0 in
    let here : 0 + i ≡ i = omega arith in
    let tests = ap (λ k. first_standing (name_tests es k e)) (sym here) ∙ numbered_none (name_tests es) 0 es i e none from.1 in
    ap (λ (m : Module). list_any (λ (before : Module). same_name m.name before.name) (take i (modules_from 0 es))) from.2
    ∙ names_before 0 i es e.name
    ∙ none_stands (name_tests es i e) 1 _ tests refl
