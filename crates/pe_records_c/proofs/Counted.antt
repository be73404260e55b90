-- The first 257 entries of a set decide its error: a set that has more has fault 41, or 42 before it.
use Rattle.std.proofs.Common.{◌≡◌, ◌⊎◌, ℕ, ◌+◌, ◌≤◌, ◌<◌, ◌==◌, List, [], ◌∷◌, ◌++◌, length, take, drop, Option, None, Some, Result, Ok, Err, inl, inr, refl, sym, ap, subst, ◌∙◌, arith}
use Rattle.std.proofs.lemmas.Bool.{cases_lt}
use Rattle.std.proofs.lemmas.List.{length-map, length-take, take-append-le, take-append-drop, take_all}
use Rattle.std.specs.List.{list_any}
use Rattle.std.specs.Prelude.{map}
use Rattle.pe_view.specs.Faults.{Test, test, first_standing}
use Rattle.pe_view.specs.FirstStanding.{first-in, first-past}
use Rattle.pe_view.specs.declared.fault.Fault.{Fault}
use Rattle.pe_view.specs.declared.fault.Place.TheVariants.{Item}
use Rattle.pe_set.specs.Numbered.{numbered}
use Rattle.pe_set.specs.Set.{Entry, same_name}
use Rattle.pe_set.specs.SetErrors.{SetAnswers, ErrorIs, set_error}
use Rattle.pe_set.specs.SetFaults.{name_tests, names_tests}
use Rattle.pe_set.specs.SetView.{entry_view}
use Rattle.pe_set.specs.declared.entry.Policy.{Policy}
use Rattle.pe_set.specs.declared.entry.SetEntry.{SetEntry}
use Rattle.pe_set.specs.declared.error.MapError.{MapError}
use Rattle.pe_set.specs.declared.error.MapError.TheVariants as errors
use Rattle.pe_set.proofs.Distinct.{few_entries}

-- the first fault of the tests in front is the first of all
stands_on : (front rest more : List Test) (y : Fault) (first : Option Fault) → first_standing front ≡ first → (first_standing rest ≡ Some y → first_standing more ≡ Some y)
    → first_standing (front ++ rest) ≡ Some y → first_standing (front ++ more) ≡ Some y
stands_on front rest more y None is on at = first-past front more is ∙ on (sym (first-past front rest is) ∙ at)
stands_on front rest more y (Some z) is on at = first-in front more z is ∙ sym (first-in front rest z is) ∙ at

front_stands : (f : ℕ → Entry → List Test) (n : ℕ) (xs ys : List Entry) (y : Fault) → first_standing (numbered f n xs) ≡ Some y → first_standing (numbered f n (xs ++ ys)) ≡ Some y
front_stands f n [] ys y at = absurd cc at
front_stands f n (x ∷ xs) ys y at = stands_on (f n x) (numbered f (n + 1) xs) (numbered f (n + 1) (xs ++ ys)) y (first_standing (f n x)) refl (front_stands f (n + 1) xs ys y) at

-- the first entries of a set have the same tests in the whole set
same_tests : (all more : List Entry) (n : ℕ) (es : List Entry) → n + length es ≤ length all → numbered (name_tests (all ++ more)) n es ≡ numbered (name_tests all) n es
same_tests all more n [] fits = refl
same_tests all more n (e ∷ es) fits =
    ap (λ (before : List Entry). (test 41 n (Item n) (n == 256) ∷ test 42 n (Item n) (list_any (λ (b : Entry). same_name e.name b.name) before) ∷ []) ++ numbered (name_tests (all ++ more)) (n + 1) es)
    (take-append-le n all more (omega (arith, fits)))
    ∙ ap (λ (ts : List Test). name_tests all n e ++ ts) (same_tests all more (n + 1) es (omega (arith, fits)))

front_has_fault : (front more : List Entry) (y : Fault) → first_standing (names_tests front) ≡ Some y → first_standing (names_tests (front ++ more)) ≡ Some y
unfolding names_tests
front_has_fault front more y at = front_stands (name_tests (front ++ more)) 0 front more y (ap first_standing (same_tests front more 0 front (omega arith)) ∙ at)

many_have_fault : (es : List Entry) (first : Option Fault) → first_standing (names_tests (take 257 es)) ≡ first → 256 < length es
    → (y : Fault) × (first_standing (names_tests (take 257 es)) ≡ Some y) × (first_standing (names_tests es) ≡ Some y)
many_have_fault es None none more = absurd (omega (arith, few_entries (take 257 es) none, length-take 257 es, more))
many_have_fault es (Some y) at more = (y, at, ap (λ (all : List Entry). first_standing (names_tests all)) (sym (take-append-drop 257 es)) ∙ front_has_fault (take 257 es) (drop 257 es) y at)

-- a set has at most 256 entries, or its names have the same first fault as those of its first 257 entries
few_or_fault : (es : List Entry) → (length es ≤ 256) ⊎ ((y : Fault) × (first_standing (names_tests (take 257 es)) ≡ Some y) × (first_standing (names_tests es) ≡ Some y))
few_or_fault es = elim (cases_lt 256 (length es)) [
  | inl more ↦ inr (many_have_fault es (first_standing (names_tests (take 257 es))) refl more)
  | inr few ↦ inl few
]

-- so it has the same error
error_counts : (policy : Policy) → ((es : List Entry) (fault : Fault) → first_standing (names_tests es) ≡ Some fault → set_error policy es ≡ Some (errors.Fault fault))
    → (es : List Entry) → set_error policy (take 257 es) ≡ set_error policy es
error_counts policy names es = elim (few_or_fault es) [
  | inl few ↦ ap (set_error policy) (take_all 257 es (omega (arith, few)))
  | inr fault ↦ names (take 257 es) fault.0 fault.1 ∙ sym (names es fault.0 fault.2)
]

-- and if its names have no fault, all its entries are read
all_count : (es : List Entry) → first_standing (names_tests (take 257 es)) ≡ None → take 257 es ≡ es
all_count es none = elim (few_or_fault es) [
  | inl few ↦ take_all 257 es (omega (arith, few))
  | inr fault ↦ absurd cc (sym none ∙ fault.1)
]

pub answer_counts : {X : Type 0} (policy : Policy) (P : List Entry → X → Type 0) → ((es : List Entry) (fault : Fault) → first_standing (names_tests es) ≡ Some fault → set_error policy es ≡ Some (errors.Fault fault))
    → ((es : List Entry) → set_error policy es ≡ None → first_standing (names_tests es) ≡ None)
    → (es : List Entry) (result : Result X MapError) → SetAnswers (set_error policy (take 257 es)) (P (take 257 es)) result → SetAnswers (set_error policy es) (P es) result
answer_counts policy P names none es (Ok x) answers = (sym (error_counts policy names es) ∙ answers.0, subst (λ (all : List Entry). P all x) (all_count es (none (take 257 es) answers.0)) answers.1)
answer_counts policy P names none es (Err error) answers = subst (λ (first : Option MapError). ErrorIs first error) (error_counts policy names es) answers

-- no entries are copied of an empty set
pub none_put : (set : List SetEntry) (es : List Entry) → map entry_view set ≡ take 257 es → length es ≡ 0 → length set ≡ 0
none_put set es put none =
    let as_many : length set ≡ length (take 257 es) = sym (length-map set entry_view) ∙ ap length put in
    omega (arith, as_many, length-take 257 es, none)

pub memory_counts : (es : List Entry) → first_standing (names_tests (take 257 es)) ≡ None → first_standing (names_tests es) ≡ None
memory_counts es none = ap (λ (all : List Entry). first_standing (names_tests all)) (sym (all_count es none)) ∙ none
