-- Each search ends in exactly one way: it is followed hop by hop, from its start and from where it is.
use Rattle.std.proofs.Common.{◌≡◌, ◌∙◌, ◌+◌, ◌≤◌, ◌⊎◌, ℕ, zero, suc, List, Option, None, Some, refl, sym, ap, subst, arith, inl, inr}
use Rattle.std.specs.Option.{option_map, option_and_then}
use Rattle.std.proofs.lemmas.Bool.{cases_lt}
use Rattle.std.proofs.lemmas.Option.{same_Some, option_and_then_some}
use Rattle.pe_tables.specs.Key.{Key, Target, Rva, Forward}
use Rattle.pe_set.specs.Set.{Module, named, forwarded_name}
use Rattle.pe_set.specs.Search.{target_in, from_target, from_image, resolve_in, onward, step, steps, stand_at, stands, pairs_of, cycle_length, ended, resolve}
use Rattle.pe_set.specs.SearchEnds.{hop_by, hop, after, IsBoundAt, IsMissingAt, IsUnknownAt, EndsAfter, IsEndless, image_after, Repeats, IsCycle, EndsAs}
use Rattle.pe_set.specs.declared.search.Resolution.{Resolution}
use Rattle.pe_set.specs.declared.search.Resolution.TheVariants.{Bound, Missing, Unknown, Endless}
use Rattle.pe_set.proofs.Cycles.{NeverEnds, not_before, never, cycle_is, resolve_ended}

-- ---- the first hop instead of the last
after_one : (o : Option (List ℕ × Key)) → o ≡ option_and_then (λ at. Some at) o
after_one None = refl
after_one (Some at) = refl

then_then : {X Y Z : Type 0} (f : X → Option Y) (g : Y → Option Z) (o : Option X) → option_and_then g (option_and_then f o) ≡ option_and_then (λ x. option_and_then g (f x)) o
then_then f g None = refl
then_then f g (Some x) = refl

after_first : (n : ℕ) (s : List Module) (at : List ℕ × Key) → after (suc n) s at ≡ option_and_then (after n s) (hop s at)
after_first zero s at = after_one (hop s at)
after_first (suc n) s at = ap (option_and_then (hop s)) (after_first n s at) ∙ then_then (after n s) (hop s) (hop s at)

after_next : (n : ℕ) (s : List Module) (at next : List ℕ × Key) → hop s at ≡ Some next → after (suc n) s at ≡ after n s next
after_next n s at next on = after_first n s at ∙ ap (option_and_then (after n s)) on

-- a search that is somewhere after a hop and n more has a first hop
first_hop : (n : ℕ) (s : List Module) (start at : List ℕ × Key) → after (suc n) s start ≡ Some at
    → (next : List ℕ × Key) × (hop s start ≡ Some next) × (after n s next ≡ Some at)
first_hop n s start at stands = option_and_then_some (after n s) (hop s start) at (sym (after_first n s start) ∙ stands) (λ next on there. (next, on, there))

-- ---- where it is, a search ends or hops
abbrev EndsSo : List Module → List ℕ × Key → Resolution → Type 0
EndsSo s at (Bound i rva) = IsBoundAt s i rva at
EndsSo s at Missing = IsMissingAt s at
EndsSo s at Unknown = IsUnknownAt s at
EndsSo s at (Endless length) = ⊥

module _ (s : List Module) (at : List ℕ × Key) where
  by_target : (i : ℕ) → named s at.0 ≡ Some i → (t : Option Target) → target_in s at.1 i ≡ t → ((end : Resolution) × EndsSo s at end) ⊎ ((next : List ℕ × Key) × (hop s at ≡ Some next))
  by_target i here None is = inl (Unknown, (i, here, is))
  by_target i here (Some (Rva rva)) is = inl (Bound i rva, (here, is))
  by_target i here (Some (Forward name key)) is = inr ((forwarded_name name, key), ap (λ o. hop_by (option_and_then (target_in s at.1) o)) here ∙ ap hop_by is)

  by_name : (o : Option ℕ) → named s at.0 ≡ o → ((end : Resolution) × EndsSo s at end) ⊎ ((next : List ℕ × Key) × (hop s at ≡ Some next))
  by_name None here = inl (Missing, here)
  by_name (Some i) here = by_target i here (target_in s at.1 i) refl

  ends_or_hops : ((end : Resolution) × EndsSo s at end) ⊎ ((next : List ℕ × Key) × (hop s at ≡ Some next))
  ends_or_hops = by_name (named s at.0) refl

  -- if it ends, it ends so however many more modules it may look in
  resolve_ends : (n : ℕ) (end : Resolution) → EndsSo s at end → resolve_in (suc n) s at.0 at.1 ≡ Some end
  resolve_ends n (Bound i rva) so = ap (from_image s (resolve_in n s) at.1) so.0 ∙ ap (from_target (resolve_in n s) i) so.1
  resolve_ends n Missing so = ap (from_image s (resolve_in n s) at.1) so
  resolve_ends n Unknown so = ap (from_image s (resolve_in n s) at.1) so.1 ∙ ap (from_target (resolve_in n s) so.0) so.2
  resolve_ends n (Endless length) so = absurd so

  module _ (n : ℕ) (next : List ℕ × Key) where
    hop_of : (i : ℕ) (t : Option Target) → hop_by t ≡ Some next → from_target (resolve_in n s) i t ≡ resolve_in n s next.0 next.1
    hop_of i None on = absurd cc
    hop_of i (Some (Rva rva)) on = absurd cc
    hop_of i (Some (Forward name key)) on = ap (λ (p : List ℕ × Key). resolve_in n s p.0 p.1) (same_Some (forwarded_name name, key) next on)

    hop_from : (o : Option ℕ) → hop_by (option_and_then (target_in s at.1) o) ≡ Some next → from_image s (resolve_in n s) at.1 o ≡ resolve_in n s next.0 next.1
    hop_from None on = absurd cc
    hop_from (Some i) on = hop_of i (target_in s at.1 i) on

    -- if it hops, it continues with one module less to look in
    resolve_hops : hop s at ≡ Some next → resolve_in (suc n) s at.0 at.1 ≡ resolve_in n s next.0 next.1
    resolve_hops on = hop_from (named s at.0) on

-- ---- a search that has ended after looking in n + 1 modules ends after at most n hops
abbrev Runs : List Module → ℕ → List ℕ × Key → Option Resolution → Type 0
Runs s n start None = Unit {0}
Runs s n start (Some end) = (hops : ℕ) × (at : List ℕ × Key) × (hops ≤ n) × (after hops s start ≡ Some at) × EndsSo s at end

runs_before : (s : List Module) (n : ℕ) (start next : List ℕ × Key) → hop s start ≡ Some next → (o : Option Resolution) → Runs s n next o → Runs s (suc n) start o
runs_before s n start next on None r = tt
runs_before s n start next on (Some end) r = let few = r.2 in (suc r.0, r.1, omega (arith, few), after_next r.0 s start next on ∙ r.3, r.4)

runs_here : (s : List Module) (n : ℕ) (start : List ℕ × Key) (end : Resolution) → EndsSo s start end → Runs s n start (resolve_in (suc n) s start.0 start.1)
runs_here s n start end so = subst (Runs s n start) (sym (resolve_ends s start n end so)) (0, start, omega arith, refl, so)

runs : (s : List Module) (n : ℕ) (start : List ℕ × Key) → Runs s n start (resolve_in (suc n) s start.0 start.1)
runs s zero start = elim (ends_or_hops s start) [
  | inl here ↦ runs_here s zero start here.0 here.1
  | inr on ↦ subst (Runs s zero start) (sym (resolve_hops s start zero on.0 on.1)) tt
]
runs s (suc n) start = elim (ends_or_hops s start) [
  | inl here ↦ runs_here s (suc n) start here.0 here.1
  | inr on ↦ subst (Runs s (suc n) start) (sym (resolve_hops s start (suc n) on.0 on.1)) (runs_before s n start on.0 on.1 (resolve_in (suc n) s on.0.0 on.0.1) (runs s n on.0))
]

ends_after : (s : List Module) (start at : List ℕ × Key) (hops : ℕ) (end : Resolution) → after hops s start ≡ Some at → EndsSo s at end → EndsAfter s start hops end
ends_after s start at hops (Bound i rva) stands so = (at, stands, so)
ends_after s start at hops Missing stands so = (at, stands, so)
ends_after s start at hops Unknown stands so = (at, stands, so)
ends_after s start at hops (Endless length) stands so = absurd so

abbrev EndsWithin : List Module → ℕ → List ℕ × Key → Resolution → Type 0
EndsWithin s n start end = (hops : ℕ) × (hops ≤ n) × EndsAfter s start hops end

ends_in : (s : List Module) (n : ℕ) (start : List ℕ × Key) (end : Resolution) → resolve_in (suc n) s start.0 start.1 ≡ Some end → EndsWithin s n start end
ends_in s n start end is =
    let r = subst (Runs s n start) is (runs s n start) in
    (r.0, r.2, ends_after s start r.1 r.0 end r.3 r.4)

-- ---- and in no other way
ends_within : (hops n : ℕ) → hops ≤ n → (s : List Module) (start at : List ℕ × Key) → after hops s start ≡ Some at → (end : Resolution) → EndsSo s at end
    → resolve_in (suc n) s start.0 start.1 ≡ Some end
ends_within zero n few s start at stands end so = resolve_ends s start n end (subst (λ (p : List ℕ × Key). EndsSo s p end) (sym (same_Some start at stands)) so)
ends_within (suc hops) zero few s start at stands end so = absurd (omega (arith, few))
ends_within (suc hops) (suc n) few s start at stands end so =
    let first = first_hop hops s start at stands in
    resolve_hops s start (suc n) first.0 first.1 ∙ ends_within hops n (omega (arith, few)) s first.0 at first.2 end so

-- one that ends after so many hops has ended after looking in one module more
has_ended : (s : List Module) (start : List ℕ × Key) (hops : ℕ) (end : Resolution) → EndsAfter s start hops end → resolve_in (suc hops) s start.0 start.1 ≡ Some end
has_ended s start hops (Bound i rva) so = ends_within hops hops (omega arith) s start so.0 so.1 (Bound i rva) so.2
has_ended s start hops Missing so = ends_within hops hops (omega arith) s start so.0 so.1 Missing so.2
has_ended s start hops Unknown so = ends_within hops hops (omega arith) s start so.0 so.1 Unknown so.2
has_ended s start hops (Endless length) so = absurd so

-- ---- a search without an end
never_ends : (s : List Module) (start : List ℕ × Key) → NeverEnds s start.0 start.1 → IsEndless s start
never_ends s start never = λ hops end so. let ended = sym (never (suc hops)) ∙ has_ended s start hops end so in absurd cc

not_by : (s : List Module) (start : List ℕ × Key) (n : ℕ) → IsEndless s start → (o : Option Resolution) → resolve_in (suc n) s start.0 start.1 ≡ o → resolve_in (suc n) s start.0 start.1 ≡ None
not_by s start n endless None is = is
not_by s start n endless (Some end) is = let ends = ends_in s n start end is in absurd (endless ends.0 end ends.2)

-- the image and the key at which a search is
module _ (s : List Module) where
  abbrev place : List ℕ × Key → Option (ℕ × Key)
  place at = stand_at s at.0 at.1

  step_target : (o : Option Target) → onward s o ≡ option_and_then place (hop_by o)
  step_target None = refl
  step_target (Some (Rva rva)) = refl
  step_target (Some (Forward name key)) = refl

  step_name : (key : Key) (o : Option ℕ) → option_and_then (step s) (option_map (λ i. (i, key)) o) ≡ option_and_then place (hop_by (option_and_then (target_in s key) o))
  step_name key None = refl
  step_name key (Some i) = step_target (target_in s key i)

  step_place : (at : List ℕ × Key) → option_and_then (step s) (place at) ≡ option_and_then place (hop s at)
  step_place at = step_name at.1 (named s at.0)

  places : (n : ℕ) (o : Option (List ℕ × Key)) → steps s n (option_and_then place o) ≡ option_and_then place (option_and_then (after n s) o)
  places zero None = refl
  places zero (Some at) = refl
  places (suc n) None = places n None
  places (suc n) (Some at) = ap (steps s n) (step_place at) ∙ places n (hop s at) ∙ ap (option_and_then place) (sym (after_first n s at))

  stands_is : (start : List ℕ × Key) (n : ℕ) → stands s start.0 start.1 n ≡ image_after s start n
  stands_is start n = places n (Some start)

-- two searches that are at the same places
same_repeats : (f g : ℕ → Option (ℕ × Key)) → ((n : ℕ) → f n ≡ g n) → (length : ℕ) → Repeats f length → Repeats g length
same_repeats f g same length repeats = (
  repeats.0,
  λ n le.
      let p = repeats.1 n le in
      (p.0, sym (same n) ∙ p.1, sym (same (n + length)) ∙ p.2),
)

same_cycle : (f g : ℕ → Option (ℕ × Key)) → ((n : ℕ) → f n ≡ g n) → (length : ℕ) → IsCycle f length → IsCycle g length
same_cycle f g same length cycle = record {
  above = cycle.above;
  repeats = same_repeats f g same length cycle.repeats;
  least = λ n above repeats. cycle.least n above (same_repeats g f (λ n. sym (same n)) n repeats);
}

one_cycle : (f : ℕ → Option (ℕ × Key)) (a b : ℕ) → IsCycle f a → IsCycle f b → a ≡ b
one_cycle f a b of_a of_b =
    let below = of_a.least b of_b.above of_b.repeats in
    let above = of_b.least a of_a.above of_a.repeats in
    omega (arith, below, above)

cycles : (s : List Module) (start : List ℕ × Key) → resolve_in (suc (pairs_of s)) s start.0 start.1 ≡ None → IsCycle (image_after s start) (cycle_length s start.0 start.1)
cycles s start none = same_cycle (stands s start.0 start.1) (image_after s start) (stands_is s start) (cycle_length s start.0 start.1) (cycle_is s start.0 start.1 none)

-- ---- a search ends as it was resolved, and in no other way
ended_as : (s : List Module) (n : ℕ) (start : List ℕ × Key) (end : Resolution) → EndsWithin s n start end → EndsAs s start end
ended_as s n start (Bound i rva) ends = (ends.0, ends.2)
ended_as s n start Missing ends = (ends.0, ends.2)
ended_as s n start Unknown ends = (ends.0, ends.2)
ended_as s n start (Endless length) ends = absurd ends.2

ends_as : (s : List Module) (start : List ℕ × Key) (o : Option Resolution) → resolve_in (suc (pairs_of s)) s start.0 start.1 ≡ o → EndsAs s start (ended (cycle_length s start.0 start.1) o)
ends_as s start None none = (never_ends s start (never s start.0 start.1 none), cycles s start none)
ends_as s start (Some end) is = ended_as s (pairs_of s) start end (ends_in s (pairs_of s) start end is)

pub ends : (s : List Module) (name : List ℕ) (key : Key) → EndsAs s (name, key) (resolve s name key)
unfolding resolve
ends s name key = ends_as s (name, key) (resolve_in (suc (pairs_of s)) s name key) refl

endless_once : (s : List Module) (name : List ℕ) (key : Key) (length : ℕ) → EndsAs s (name, key) (Endless length) → Endless length ≡ resolve s name key
unfolding resolve
endless_once s name key length so =
    let none = not_by s (name, key) (pairs_of s) so.0 (resolve_in (suc (pairs_of s)) s name key) refl in
    let same = one_cycle (image_after s (name, key)) length (cycle_length s name key) so.1 (cycles s (name, key) none) in
    ap (λ n. Endless n) same ∙ ap (ended (cycle_length s name key)) (sym none)

pub ends_once : (s : List Module) (name : List ℕ) (key : Key) (end : Resolution) → EndsAs s (name, key) end → end ≡ resolve s name key
ends_once s name key (Bound i rva) so = sym (resolve_ended s name key (suc so.0) (Bound i rva) (has_ended s (name, key) so.0 (Bound i rva) so.1))
ends_once s name key Missing so = sym (resolve_ended s name key (suc so.0) Missing (has_ended s (name, key) so.0 Missing so.1))
ends_once s name key Unknown so = sym (resolve_ended s name key (suc so.0) Unknown (has_ended s (name, key) so.0 Unknown so.1))
ends_once s name key (Endless length) so = endless_once s name key length so

-- ---- a search that ends does so soon
soon_of : (s : List Module) (start : List ℕ × Key) → (IsEndless s start → ⊥) → (o : Option Resolution) → resolve_in (suc (pairs_of s)) s start.0 start.1 ≡ o
    → (hops : ℕ) × (end : Resolution) × (hops ≤ pairs_of s) × EndsAfter s start hops end
soon_of s start not None none = absurd (not (never_ends s start (never s start.0 start.1 none)))
soon_of s start not (Some end) is = let ends = ends_in s (pairs_of s) start end is in (ends.0, end, ends.1, ends.2)

pub ends_soon : (s : List Module) (start : List ℕ × Key) → (IsEndless s start → ⊥) → (hops : ℕ) × (end : Resolution) × (hops ≤ pairs_of s) × EndsAfter s start hops end
ends_soon s start not = soon_of s start not (resolve_in (suc (pairs_of s)) s start.0 start.1) refl

-- it hops on until it ends
goes_on_to : (n : ℕ) (s : List Module) (start at : List ℕ × Key) → after n s start ≡ Some at → resolve_in n s start.0 start.1 ≡ None
goes_on_to zero s start at stands = refl
goes_on_to (suc n) s start at stands =
    let first = first_hop n s start at stands in
    resolve_hops s start n first.0 first.1 ∙ goes_on_to n s first.0 at first.2

stands_then : (s : List Module) (start : List ℕ × Key) (hops : ℕ) (end : Resolution) → EndsAfter s start hops end → (at : List ℕ × Key) × (after hops s start ≡ Some at)
stands_then s start hops (Bound i rva) so = (so.0, so.1)
stands_then s start hops Missing so = (so.0, so.1)
stands_then s start hops Unknown so = (so.0, so.1)
stands_then s start hops (Endless length) so = absurd so

pub soon : (s : List Module) (start : List ℕ × Key) (hops : ℕ) (end : Resolution) → EndsAfter s start hops end → hops ≤ pairs_of s
soon s start hops end so = elim (cases_lt (pairs_of s) hops) [
  | inr few ↦ few
  | inl many ↦
      (let there = stands_then s start hops end so in
      let none = not_before s (suc (pairs_of s)) hops start.0 start.1 (omega (arith, many)) (goes_on_to hops s start there.0 there.1) in
      absurd (never_ends s start (never s start.0 start.1 none) hops end so))
]
