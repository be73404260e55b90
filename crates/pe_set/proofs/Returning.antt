-- A search that comes back to where it was runs in a cycle, which is as long as the hops between.
use Rattle.std.proofs.Common.{◌≡◌, ◌∙◌, ◌<◌, ◌+◌, ◌-◌, ◌≤◌, ℕ, suc, List, Option, None, Some, refl, sym, ap, arith, inl, inr}
use Rattle.std.proofs.lemmas.Bool.{cases_lt}
use Rattle.pe_tables.specs.Key.{Key}
use Rattle.pe_set.specs.Set.{Module}
use Rattle.pe_set.specs.Search.{stand_at, steps, stands, pairs_of, cycle_length, ended, resolve}
use Rattle.pe_set.specs.SearchEnds.{Repeats}
use Rattle.pe_set.specs.declared.search.Resolution.TheVariants.{Endless}
use Rattle.pe_set.proofs.Cycles.{NeverEnds, steps_add, steps_none, goes_on, times, times_more, round, cycle_is}

-- a search is at one place after so many hops, and so many later again, but not between
pub record IsReturn (s : List Module) (name : List ℕ) (key : Key) (first length : ℕ) (p : ℕ × Key) : Type 0 where
  pub above : 0 < length
  pub there : stands s name key first ≡ Some p
  pub again : stands s name key (first + length) ≡ Some p
  pub between : (n : ℕ) → 0 < n → n < length → stands s name key (first + n) ≡ Some p → ⊥

module _ (s : List Module) (name : List ℕ) (key : Key) (first length : ℕ) (p : ℕ × Key) (return : IsReturn s name key first length p) where
  from_first : (n : ℕ) → stands s name key (first + n) ≡ steps s n (Some p)
  from_first n = steps_add s first n (stand_at s name key) ∙ ap (steps s n) return.there

  once_round : steps s length (Some p) ≡ Some p
  once_round = sym (from_first length) ∙ return.again

  rounds : (n : ℕ) → stands s name key (first + times n length) ≡ Some p
  rounds n = from_first (times n length) ∙ round s p length once_round n

  -- it is somewhere after any number of hops
  not_lost : (n : ℕ) (o : Option (ℕ × Key)) → stands s name key n ≡ o → (q : ℕ × Key) × (o ≡ Some q)
  not_lost n (Some q) is = (q, refl)
  not_lost n None is =
      let more = times_more n length return.above in
      let all : n + (first + times n length - n) ≡ first + times n length = omega (arith, more) in
      let lost = sym (ap (stands s name key) all) ∙ steps_add s n (first + times n length - n) (stand_at s name key) ∙ ap (steps s (first + times n length - n)) is ∙ steps_none s (first + times n length - n) in
      let there = rounds n in
      absurd cc

  always : (n : ℕ) → (q : ℕ × Key) × (stands s name key n ≡ Some q)
  always n = not_lost n (stands s name key n) refl

  pub return_never : NeverEnds s name key
  return_never n = let there = always n in goes_on s n name key there.0 there.1

  repeats : Repeats (stands s name key) length
  repeats = (
    first,
    λ n le.
        let q = always n in
        let r = n - first in
        let e : first + (n - first) ≡ n = omega (arith, le) in
        let e' : n + length ≡ first + (length + (n - first)) = omega (arith, le) in
        let here : stands s name key n ≡ steps s r (Some p) = ap (stands s name key) (sym e) ∙ from_first r in
        (q.0, q.1, ap (stands s name key) e' ∙ from_first (length + r) ∙ steps_add s length r (Some p) ∙ ap (steps s r) once_round ∙ sym here ∙ q.1),
  )

  -- if from some hop on it is where it was n hops before, it is so from the place on
  comes_back : (n : ℕ) → Repeats (stands s name key) n → stands s name key (first + n) ≡ Some p
  comes_back n again =
      let t = times again.0 length in
      let more = times_more again.0 length return.above in
      let q = again.1 (first + t) (omega (arith, more)) in
      let here = rounds again.0 in
      from_first n ∙ sym (ap (steps s n) here) ∙ sym (steps_add s (first + t) n (stand_at s name key)) ∙ q.2 ∙ sym q.1 ∙ here

  least : (n : ℕ) → 0 < n → Repeats (stands s name key) n → length ≤ n
  least n above again = elim (cases_lt n length) [
    | inr le ↦ le
    | inl lt ↦ absurd (return.between n above lt (comes_back n again))
  ]

  pub return_is_cycle : Endless length ≡ resolve s name key
  unfolding resolve
  return_is_cycle =
      let none = return_never (suc (pairs_of s)) in
      let other = cycle_is s name key none in
      let below = least (cycle_length s name key) other.above other.repeats in
      let above = other.least length return.above repeats in
      let same : length ≡ cycle_length s name key = omega (arith, below, above) in
      ap (λ n. Endless n) same ∙ ap (ended (cycle_length s name key)) (sym none)
