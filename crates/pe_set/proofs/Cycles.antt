-- Searches that end do so soon, and others come back to where they were.
use Rattle.std.proofs.Common.{◌≡◌, ◌∙◌, ◌<◌, ◌+◌, ◌-◌, ◌≤◌, ℕ, zero, suc, List, Bool, true, false, cond, length, Option, None, Some, refl, sym, ap, subst, arith, inl, inr}
use Rattle.std.specs.Prelude.{option_map, option_and_then, ◌==◌}
use Rattle.std.proofs.lemmas.Bool.{cases_lt, eqb-true, eq-eqb, and_parts, and_from}
use Rattle.std.proofs.lemmas.Option.{same_Some}
use Rattle.std.proofs.lemmas.Slice.Eq.{bytes_eq-Decides}
use Rattle.pe_tables.specs.Key.{Key, Ordinal, Name, Target, Rva, Forward}
use Rattle.pe_set.specs.Set.{Module, named, forwarded_name}
use Rattle.pe_set.specs.Search.{target_in, from_target, from_image, resolve_in, stand_at, onward, step, steps, stands, pairs_of, same_key, same_stand, steps_to, cycle_at, cycle_length, ended, resolve}
use Rattle.pe_set.specs.SearchEnds.{Repeats, IsCycle}
use Rattle.pe_set.specs.declared.search.Resolution.{Resolution}
use Rattle.pe_set.specs.declared.search.Resolution.TheVariants.{Endless}
use Rattle.pe_set.proofs.Pigeons.{pigeons}
use Rattle.pe_set.proofs.PairNumbers.{pair_number, number_in, number_same}

abbrev Stand : Type 0
Stand = ℕ × Key

-- however many modules it looks in, it has not ended
abbrev pub NeverEnds : List Module → List ℕ → Key → Type 0
NeverEnds s name key = (n : ℕ) → resolve_in n s name key ≡ None

-- ---- hops
pub steps_add : (s : List Module) (a b : ℕ) (p : Option Stand) → steps s (a + b) p ≡ steps s b (steps s a p)
steps_add s zero b p = let e : 0 + b ≡ b = omega arith in ap (λ n. steps s n p) e
steps_add s (suc a) b p = let e : suc a + b ≡ suc (a + b) = omega arith in ap (λ n. steps s n p) e ∙ steps_add s a b (option_and_then (step s) p)

pub steps_none : (s : List Module) (n : ℕ) → steps s n None ≡ None
steps_none s zero = refl
steps_none s (suc n) = steps_none s n

-- it is at a forwarder
pub record AtForward (s : List Module) (o : Option Stand) : Type 0 where
  pub p : Stand
  pub is : o ≡ Some p
  pub name : List ℕ
  pub key : Key
  pub forwards : target_in s p.1 p.0 ≡ Some (Forward name key)

-- ---- a search that has not ended after looking in n + 1 modules is at a forwarder after n hops
module _ (s : List Module) where
  start_target : (i : ℕ) (key : Key) (t : Option Target) → target_in s key i ≡ t → from_target (resolve_in zero s) i t ≡ None → AtForward s (Some (i, key))
  start_target i key None is none = absurd cc
  start_target i key (Some (Rva rva)) is none = absurd cc
  start_target i key (Some (Forward name next)) is none = record { p = (i, key); is = refl; name = name; key = next; forwards = is }

  start_image : (key : Key) (o : Option ℕ) → from_image s (resolve_in zero s) key o ≡ None → AtForward s (option_map (λ i. (i, key)) o)
  start_image key None none = absurd cc
  start_image key (Some i) none = start_target i key (target_in s key i) refl none

  module _ (n : ℕ) (later : (name : List ℕ) (key : Key) → resolve_in (suc n) s name key ≡ None → AtForward s (stands s name key n)) where
    next_target : (i : ℕ) (key : Key) (t : Option Target) → target_in s key i ≡ t → from_target (resolve_in (suc n) s) i t ≡ None → AtForward s (steps s (suc n) (Some (i, key)))
    next_target i key None is none = absurd cc
    next_target i key (Some (Rva rva)) is none = absurd cc
    next_target i key (Some (Forward name next)) is none = subst (λ (t : Option Target). AtForward s (steps s n (onward s t))) (sym is) (later (forwarded_name name) next none)

    next_image : (key : Key) (o : Option ℕ) → from_image s (resolve_in (suc n) s) key o ≡ None → AtForward s (steps s (suc n) (option_map (λ i. (i, key)) o))
    next_image key None none = absurd cc
    next_image key (Some i) none = next_target i key (target_in s key i) refl none

  forward_at : (n : ℕ) (name : List ℕ) (key : Key) → resolve_in (suc n) s name key ≡ None → AtForward s (stands s name key n)
  forward_at zero name key none = start_image key (named s name) none
  forward_at (suc n) name key none = next_image n (forward_at n) key (named s name) none

-- ---- and if it is somewhere after n hops, it has not ended after looking in n
module _ (s : List Module) (n : ℕ) (later : (name : List ℕ) (key : Key) (p : Stand) → stands s name key n ≡ Some p → resolve_in n s name key ≡ None) where
  on_target : (i : ℕ) (key : Key) (p : Stand) (t : Option Target) → target_in s key i ≡ t → steps s n (onward s t) ≡ Some p → from_target (resolve_in n s) i t ≡ None
  on_target i key p None is at = let none = steps_none s n in absurd cc
  on_target i key p (Some (Rva rva)) is at = let none = steps_none s n in absurd cc
  on_target i key p (Some (Forward name next)) is at = later (forwarded_name name) next p at

  on_image : (key : Key) (p : Stand) (o : Option ℕ) → steps s (suc n) (option_map (λ i. (i, key)) o) ≡ Some p → from_image s (resolve_in n s) key o ≡ None
  on_image key p None at = let none = steps_none s n in absurd cc
  on_image key p (Some i) at = on_target i key p (target_in s key i) refl at

pub goes_on : (s : List Module) (n : ℕ) (name : List ℕ) (key : Key) (p : Stand) → stands s name key n ≡ Some p → resolve_in n s name key ≡ None
goes_on s zero name key p at = refl
goes_on s (suc n) name key p at = on_image s n (goes_on s n) key p (named s name) at

-- ---- one that has not ended had not before
module _ (s : List Module) (a b : ℕ) (less : (name : List ℕ) (key : Key) → resolve_in b s name key ≡ None → resolve_in a s name key ≡ None) where
  less_target : (i : ℕ) (t : Option Target) → from_target (resolve_in b s) i t ≡ None → from_target (resolve_in a s) i t ≡ None
  less_target i None none = absurd cc
  less_target i (Some (Rva rva)) none = absurd cc
  less_target i (Some (Forward name next)) none = less (forwarded_name name) next none

  less_image : (key : Key) (o : Option ℕ) → from_image s (resolve_in b s) key o ≡ None → from_image s (resolve_in a s) key o ≡ None
  less_image key None none = absurd cc
  less_image key (Some i) none = less_target i (target_in s key i) none

pub not_before : (s : List Module) (a b : ℕ) (name : List ℕ) (key : Key) → a ≤ b → resolve_in b s name key ≡ None → resolve_in a s name key ≡ None
not_before s zero b name key le none = refl
not_before s (suc a) zero name key le none = absurd (omega (arith, le))
not_before s (suc a) (suc b) name key le none = less_image s a b (λ name key none. not_before s a b name key (omega (arith, le)) none) key (named s name) none

-- ---- and if it has ended, it ends at the same
module _ (s : List Module) (a b : ℕ) (end end' : Resolution) (same : (name : List ℕ) (key : Key) → resolve_in a s name key ≡ Some end → resolve_in b s name key ≡ Some end' → end ≡ end') where
  one_target : (i : ℕ) (t : Option Target) → from_target (resolve_in a s) i t ≡ Some end → from_target (resolve_in b s) i t ≡ Some end' → end ≡ end'
  one_target i None is is' = sym (same_Some _ end is) ∙ same_Some _ end' is'
  one_target i (Some (Rva rva)) is is' = sym (same_Some _ end is) ∙ same_Some _ end' is'
  one_target i (Some (Forward name next)) is is' = same (forwarded_name name) next is is'

  one_image : (key : Key) (o : Option ℕ) → from_image s (resolve_in a s) key o ≡ Some end → from_image s (resolve_in b s) key o ≡ Some end' → end ≡ end'
  one_image key None is is' = sym (same_Some _ end is) ∙ same_Some _ end' is'
  one_image key (Some i) is is' = one_target i (target_in s key i) is is'

one_end : (s : List Module) (a b : ℕ) (name : List ℕ) (key : Key) (end end' : Resolution) → resolve_in a s name key ≡ Some end → resolve_in b s name key ≡ Some end' → end ≡ end'
one_end s zero b name key end end' is is' = absurd cc
one_end s (suc a) zero name key end end' is is' = absurd cc
one_end s (suc a) (suc b) name key end end' is is' = one_image s a b end end' (λ name key is is'. one_end s a b name key end end' is is') key (named s name) is is'

-- ---- after one hop more than there are pairs, it was somewhere twice
abbrev pub number_of : List Module → Option Stand → ℕ
number_of s None = 0
number_of s (Some p) = pair_number s p.0 p.1

record Loop (s : List Module) (name : List ℕ) (key : Key) : Type 0 where
  from : ℕ
  length : ℕ
  above : 0 < length
  within : from + length ≤ pairs_of s
  again : stands s name key (from + length) ≡ stands s name key from
  early : (n : ℕ) → n ≤ pairs_of s → (p : Stand) × (stands s name key n ≡ Some p)

module _ (s : List Module) (name : List ℕ) (key : Key) (none : resolve_in (suc (pairs_of s)) s name key ≡ None) where
  at : (n : ℕ) → n ≤ pairs_of s → AtForward s (stands s name key n)
  at n le = forward_at s n name key (not_before s (suc n) (suc (pairs_of s)) name key (omega (arith, le)) none)

  number_at : (n : ℕ) (le : n ≤ pairs_of s) → number_of s (stands s name key n) ≡ pair_number s (at n le).p.0 (at n le).p.1
  number_at n le = ap (number_of s) (at n le).is

  small : (n : ℕ) → n ≤ pairs_of s → number_of s (stands s name key n) < pairs_of s
  small n le =
      let there = at n le in
      let lt = number_in s there.p.0 there.p.1 (Forward there.name there.key) there.forwards in
      let e = number_at n le in
      omega (arith, lt, e)

  looped : Loop s name key
  looped =
      let twice = pigeons (pairs_of s) (λ n. number_of s (stands s name key n)) small in
      let a = twice.0 in
      let b = twice.1 in
      let lt = twice.2 in
      let le_b = twice.3 in
      let le_a : a ≤ pairs_of s = omega (arith, lt, le_b) in
      let p = at a le_a in
      let q = at b le_b in
      let e = sym (number_at a le_a) ∙ twice.4 ∙ number_at b le_b in
      let both = number_same s p.p.0 q.p.0 p.p.1 q.p.1 (Forward p.name p.key) (Forward q.name q.key) p.forwards q.forwards e in
      let same : p.p ≡ q.p = ap (λ i. (i, p.p.1)) both.0 ∙ ap (λ k. (q.p.0, k)) both.1 in
      let sum : a + (b - a) ≡ b = omega (arith, lt) in
      record {
        from = a;
        length = b - a;
        above = omega (arith, lt);
        within = omega (arith, lt, le_b);
        again = ap (stands s name key) sum ∙ q.is ∙ sym (p.is ∙ ap (λ p. Some p) same);
        early = λ n le. ((at n le).p, (at n le).is);
      }

module _ (s : List Module) (name : List ℕ) (key : Key) (loop : Loop s name key) where
  -- from where it was twice on, each place is as it was
  period : (n : ℕ) → stands s name key (loop.from + loop.length + n) ≡ stands s name key (loop.from + n)
  period n =
      steps_add s (loop.from + loop.length) n (stand_at s name key) ∙ ap (steps s n) loop.again ∙ sym (steps_add s loop.from n (stand_at s name key))

  later_up_to : (limit n : ℕ) → n ≤ limit → (p : Stand) × (stands s name key n ≡ Some p)
  later_up_to zero n le = loop.early n (let within = loop.within in omega (arith, le, within))
  later_up_to (suc limit) n le = elim (cases_lt (pairs_of s) n) [
    | inr early ↦ loop.early n early
    | inl late ↦
        (let within = loop.within in
        let above = loop.above in
        let r = n - (loop.from + loop.length) in
        let e : loop.from + loop.length + (n - (loop.from + loop.length)) ≡ n = omega (arith, late, within) in
        let before = later_up_to limit (loop.from + r) (omega (arith, le, late, within, above)) in
        (before.0, ap (stands s name key) (sym e) ∙ period r ∙ before.1))
  ]

  always : (n : ℕ) → (p : Stand) × (stands s name key n ≡ Some p)
  always n = later_up_to n n (omega arith)

  endless : NeverEnds s name key
  endless n = let there = always n in goes_on s n name key there.0 there.1

-- ---- a search ends soon or never
soon : (s : List Module) (name : List ℕ) (key : Key) (n : ℕ) (end : Resolution) (o : Option Resolution) → resolve_in (suc (pairs_of s)) s name key ≡ o → resolve_in n s name key ≡ Some end
    → resolve_in (suc (pairs_of s)) s name key ≡ Some end
soon s name key n end None none is = let never = endless s name key (looped s name key none) n in absurd cc
soon s name key n end (Some other) there is = there ∙ ap (λ r. Some r) (one_end s (suc (pairs_of s)) n name key other end there is)

-- a search that has not ended after looking in one module more than there are pairs never does
pub never : (s : List Module) (name : List ℕ) (key : Key) → resolve_in (suc (pairs_of s)) s name key ≡ None → NeverEnds s name key
never s name key none = endless s name key (looped s name key none)

-- ---- how many hops it takes to come back
same_key_is : (a b : Key) → same_key a b ≡ true → a ≡ b
same_key_is (Ordinal a) (Ordinal b) is = ap (λ n. Ordinal n) (eqb-true a b is)
same_key_is (Ordinal a) (Name b) is = absurd cc
same_key_is (Name a) (Ordinal b) is = absurd cc
same_key_is (Name a) (Name b) is = ap (λ text. Name text) ((bytes_eq-Decides a b).0 is)

key_is_same : (a : Key) → same_key a a ≡ true
key_is_same (Ordinal a) = eq-eqb a a refl
key_is_same (Name a) = (bytes_eq-Decides a a).1 refl

same_stand_is : (p : Stand) (o : Option Stand) → same_stand p o ≡ true → o ≡ Some p
same_stand_is p None is = absurd cc
same_stand_is p (Some q) is =
    let parts = and_parts (p.0 == q.0) (same_key p.1 q.1) is in
    ap (λ (q : Stand). Some q) (ap (λ i. (i, q.1)) (sym (eqb-true p.0 q.0 parts.0)) ∙ ap (λ k. (p.0, k)) (sym (same_key_is p.1 q.1 parts.1)))

stand_is_same : (p : Stand) → same_stand p (Some p) ≡ true
stand_is_same p = and_from (p.0 == p.0) (same_key p.1 p.1) (eq-eqb p.0 p.0 refl) (key_is_same p.1)

abbrev pub times : ℕ → ℕ → ℕ
times zero length = 0
times (suc n) length = length + times n length

pub times_more : (n length : ℕ) → 0 < length → n ≤ times n length
times_more zero length above = omega arith
times_more (suc n) length above = let more = times_more n length above in omega (arith, more, above)

abbrev Returns : List Module → Stand → Option Stand → ℕ → ℕ → Type 0
Returns s p q limit found = (0 < found) × (found ≤ limit) × (steps s found q ≡ Some p)

module _ (s : List Module) (p : Stand) where
  returns_step : (n k : ℕ) (q : Option Stand) (b : Bool) → same_stand p (option_and_then (step s) q) ≡ b
      → ((k : ℕ) → steps s (suc k) (option_and_then (step s) q) ≡ Some p → suc k ≤ n → Returns s p (option_and_then (step s) q) (suc k) (steps_to n s p (option_and_then (step s) q)))
      → steps s (suc k) q ≡ Some p → suc k ≤ suc n → Returns s p q (suc k) (suc (cond b 0 (steps_to n s p (option_and_then (step s) q))))
  returns_step n k q true here later is le = (omega arith, omega arith, same_stand_is p (option_and_then (step s) q) here)
  returns_step n zero q false here later is le = let there = ap (same_stand p) is ∙ stand_is_same p in absurd cc
  returns_step n (suc k) q false here later is le =
      let rest = later k is (omega (arith, le)) in
      let below = rest.1 in
      (omega arith, omega (arith, below), rest.2)

  returns : (n k : ℕ) (q : Option Stand) → steps s (suc k) q ≡ Some p → suc k ≤ n → Returns s p q (suc k) (steps_to n s p q)
  returns zero k q is le = absurd (omega (arith, le))
  returns (suc n) k q is le = returns_step n k q (same_stand p (option_and_then (step s) q)) refl (λ k is le. returns n k (option_and_then (step s) q) is le) is le

  -- the same for a number above 0
  returns_at : (n k : ℕ) (q : Option Stand) → 0 < k → steps s k q ≡ Some p → k ≤ n → Returns s p q k (steps_to n s p q)
  returns_at n zero q above is le = absurd (omega (arith, above))
  returns_at n (suc k) q above is le = returns n k q is le

  pub round : (length : ℕ) → steps s length (Some p) ≡ Some p → (n : ℕ) → steps s (times n length) (Some p) ≡ Some p
  round length is zero = refl
  round length is (suc n) = steps_add s length (times n length) (Some p) ∙ ap (steps s (times n length)) is ∙ round length is n

module _ (s : List Module) (name : List ℕ) (key : Key) (loop : Loop s name key) where
  abbrev far : ℕ
  far = suc (pairs_of s)

  module _ (p : Stand) (there : stands s name key far ≡ Some p) where
    from_far : (n : ℕ) → stands s name key (far + n) ≡ steps s n (Some p)
    from_far n = steps_add s far n (stand_at s name key) ∙ ap (steps s n) there

    loop_round : steps s loop.length (Some p) ≡ Some p
    loop_round =
        let within = loop.within in
        let e : far + loop.length ≡ loop.from + loop.length + (far - loop.from) = omega (arith, within) in
        let e' : loop.from + (far - loop.from) ≡ far = omega (arith, within) in
        sym (from_far loop.length) ∙ ap (stands s name key) e ∙ period s name key loop (far - loop.from) ∙ ap (stands s name key) e' ∙ there

    abbrev found : ℕ
    found = steps_to (pairs_of s) s p (Some p)

    first_return : Returns s p (Some p) loop.length found
    first_return = returns_at s p (pairs_of s) loop.length (Some p) loop.above loop_round (let within = loop.within in omega (arith, within))

    found_repeats : Repeats (stands s name key) found
    found_repeats = (
      far,
      λ n le.
          let q = always s name key loop n in
          let r = n - far in
          let e : far + (n - far) ≡ n = omega (arith, le) in
          let e' : n + found ≡ far + (found + (n - far)) = omega (arith, le) in
          let here : stands s name key n ≡ steps s r (Some p) = ap (stands s name key) (sym e) ∙ from_far r in
          (q.0, q.1, ap (stands s name key) e' ∙ from_far (found + r) ∙ steps_add s found r (Some p) ∙ ap (steps s r) first_return.2 ∙ sym here ∙ q.1),
    )

    round_of : (n : ℕ) → Repeats (stands s name key) n → steps s n (Some p) ≡ Some p
    round_of n repeats =
        let from = repeats.0 in
        let t = times from loop.length in
        let more = times_more from loop.length loop.above in
        let q = repeats.1 (far + t) (omega (arith, more)) in
        let here : stands s name key (far + t) ≡ Some p = from_far t ∙ round s p loop.length loop_round from in
        sym (ap (steps s n) here) ∙ sym (steps_add s (far + t) n (stand_at s name key)) ∙ q.2 ∙ sym q.1 ∙ here

    found_least : (n : ℕ) → 0 < n → Repeats (stands s name key) n → found ≤ n
    found_least n above repeats = elim (cases_lt (pairs_of s) n) [
      | inl more ↦ (let below = first_return.1 in let within = loop.within in omega (arith, below, within, more))
      | inr few ↦ (returns_at s p (pairs_of s) n (Some p) above (round_of n repeats) few).1
    ]

    cycle_found : IsCycle (stands s name key) found
    cycle_found = record { above = first_return.0; repeats = found_repeats; least = found_least }

pub cycle_is : (s : List Module) (name : List ℕ) (key : Key) → resolve_in (suc (pairs_of s)) s name key ≡ None → IsCycle (stands s name key) (cycle_length s name key)
cycle_is s name key none =
    let loop = looped s name key none in
    let there = always s name key loop (suc (pairs_of s)) in
    subst (IsCycle (stands s name key)) (sym (ap (cycle_at (pairs_of s) s) there.1)) (cycle_found s name key loop there.0 there.1)

-- a search that ends is resolved to its end
pub resolve_ended : (s : List Module) (name : List ℕ) (key : Key) (n : ℕ) (end : Resolution) → resolve_in n s name key ≡ Some end → resolve s name key ≡ end
unfolding resolve
resolve_ended s name key n end is = ap (ended (cycle_length s name key)) (soon s name key n end (resolve_in (suc (pairs_of s)) s name key) refl is)

-- one that is resolved to an end ended soon
ended_is_by : (length : ℕ) (end : Resolution) (o : Option Resolution) → end ≡ ended length o → ((n : ℕ) → end ≡ Endless n → ⊥) → o ≡ Some end
ended_is_by length end None is not = absurd (not length is)
ended_is_by length end (Some other) is not = ap (λ r. Some r) (sym is)

pub ended_is : (s : List Module) (name : List ℕ) (key : Key) (end : Resolution) → end ≡ resolve s name key → ((n : ℕ) → end ≡ Endless n → ⊥) → resolve_in (suc (pairs_of s)) s name key ≡ Some end
unfolding resolve
ended_is s name key end is not = ended_is_by (cycle_length s name key) end (resolve_in (suc (pairs_of s)) s name key) is not
