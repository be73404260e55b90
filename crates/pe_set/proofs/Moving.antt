-- A move without a fault leaves the images of a set where they may be.
use Rattle.std.proofs.Common.{◌≡◌, ◌∙◌, ◌+◌, ◌⊎◌, ℕ, zero, suc, List, [], ◌∷◌, Bool, true, false, map, None, Some, refl, sym, ap, subst, arith, inl, inr}
use Rattle.std.specs.Prelude.{slice_get, slice_set, nat_lt, ◌&&◌}
use Rattle.std.specs.List.{list_any}
use Rattle.std.proofs.lemmas.Bool.{or_parts}
use Rattle.std.proofs.lemmas.Option.{same_Some}
use Rattle.pe_view.specs.Faults.{first_standing}
use Rattle.pe_view.specs.FirstStanding.{none_stands}
use Rattle.pe_set.specs.Placement.{Placement, overlap, placement_at, others_than, move_tests}
use Rattle.pe_set.specs.Set.{Entry, Module, modules_from, modules_of, placement_of, bases_of, at_bases, rebased}
use Rattle.pe_set.specs.SetFaults.{has_other_magic, places_tests}
use Rattle.pe_set.specs.SetErrors.{set_error}
use Rattle.pe_set.specs.declared.entry.Policy.{Policy}
use Rattle.pe_set.proofs.Bases.{images_at}
use Rattle.pe_set.proofs.Faultless.{classes}
use Rattle.pe_set.proofs.Places.{Fits, fits, Stands, stands, all_stand, none_before, all_before}
use Rattle.pe_set.proofs.Staying.{accepted_at}

-- a set with image i at a base
abbrev pub moved : List Module → ℕ → ℕ → List Module
moved [] i base = []
moved (m ∷ s) zero base = record m { base = base } ∷ s
moved (m ∷ s) (suc i) base = m ∷ moved s i base

own_bases : (n : ℕ) (es : List Entry) → bases_of es ≡ map (λ (m : Module). m.base) (modules_from n es)
own_bases n [] = refl
own_bases n (e ∷ es) = ap (λ bases. e.base ∷ bases) (own_bases (n + 1) es)

at_own_bases : (s : List Module) → rebased (map (λ (m : Module). m.base) s) s ≡ s
at_own_bases [] = refl
at_own_bases (m ∷ s) = ap (λ s. m ∷ s) (at_own_bases s)

rebased_one : (s : List Module) (i base : ℕ) → rebased (slice_set (map (λ (m : Module). m.base) s) i base) s ≡ moved s i base
rebased_one [] i base = refl
rebased_one (m ∷ s) zero base = ap (λ (t : List Module). record m { base = base } ∷ t) (at_own_bases s)
rebased_one (m ∷ s) (suc i) base = ap (λ t. m ∷ t) (rebased_one s i base)

pub images_moved : (es : List Entry) (i base : ℕ) → modules_of (at_bases (slice_set (bases_of es) i base) es) ≡ moved (modules_of es) i base
unfolding modules_of
images_moved es i base =
    images_at (slice_set (bases_of es) i base) es
    ∙ ap (λ bases. rebased (slice_set bases i base) (modules_from 0 es)) (own_bases 0 es)
    ∙ rebased_one (modules_from 0 es) i base

-- image j of the moved set: image i at its base, or another as it was
got_moved : (s : List Module) (i base j : ℕ) (m : Module) → slice_get (moved s i base) j ≡ Some m
    → ((j ≡ i) × ((n : Module) × (slice_get s i ≡ Some n) × (m ≡ record n { base = base }))) ⊎ ((j ≡ i → ⊥) × (slice_get s j ≡ Some m))
got_moved [] i base j m at = absurd cc
got_moved (x ∷ s) zero base zero m at = inl (refl, (x, refl, sym (same_Some (record x { base = base }) m at)))
got_moved (x ∷ s) zero base (suc j) m at = inr ((λ e. absurd (omega (arith, e))), at)
got_moved (x ∷ s) (suc i) base zero m at = inr ((λ e. absurd (omega (arith, e))), at)
got_moved (x ∷ s) (suc i) base (suc j) m at = elim (got_moved s i base j m at) [
  | inl here ↦ inl (ap (λ k. suc k) here.0, here.1)
  | inr other ↦ inr ((λ e. other.0 (omega (arith, e))), other.1)
]

alike_moved : (s : List Module) (i base : ℕ) (m : Module) → has_other_magic (moved s i base) m ≡ has_other_magic s m
alike_moved [] i base m = refl
alike_moved (x ∷ s) zero base m = refl
alike_moved (x ∷ s) (suc i) base m = refl

alike_at : (s : List Module) (m : Module) (base : ℕ) → has_other_magic s (record m { base = base }) ≡ has_other_magic s m
alike_at [] m base = refl
alike_at (x ∷ s) m base = refl

placed_at : (s : List Module) (i : ℕ) (m : Module) → slice_get s i ≡ Some m → placement_at (map placement_of s) i ≡ placement_of m
placed_at [] i m at = absurd cc
placed_at (x ∷ s) zero m at = ap placement_of (same_Some x m at)
placed_at (x ∷ s) (suc i) m at = placed_at s i m at

-- no other image meets the one that is moved
free_of : (p : Placement) (s : List Module) (j : ℕ) (m : Module) → list_any (overlap p) (map placement_of s) ≡ false → slice_get s j ≡ Some m → overlap p (placement_of m) ≡ false
free_of p [] j m none at = absurd cc
free_of p (x ∷ s) zero m none at = ap (λ (m : Module). overlap p (placement_of m)) (sym (same_Some x m at)) ∙ (or_parts (overlap p (placement_of x)) (list_any (overlap p) (map placement_of s)) none).0
free_of p (x ∷ s) (suc j) m none at = free_of p s j m (or_parts (overlap p (placement_of x)) (list_any (overlap p) (map placement_of s)) none).1 at

free_of_others : (p : Placement) (s : List Module) (i j : ℕ) (m : Module) → list_any (overlap p) (others_than i (map placement_of s)) ≡ false → (j ≡ i → ⊥) → slice_get s j ≡ Some m → overlap p (placement_of m) ≡ false
free_of_others p [] i j m none ne at = absurd cc
free_of_others p (x ∷ s) zero zero m none ne at = absurd (ne refl)
free_of_others p (x ∷ s) zero (suc j) m none ne at = free_of p s j m none at
free_of_others p (x ∷ s) (suc i) zero m none ne at =
    ap (λ (m : Module). overlap p (placement_of m)) (sym (same_Some x m at)) ∙ (or_parts (overlap p (placement_of x)) (list_any (overlap p) (others_than i (map placement_of s))) none).0
free_of_others p (x ∷ s) (suc i) (suc j) m none ne at =
    free_of_others p s i j m (or_parts (overlap p (placement_of x)) (list_any (overlap p) (others_than i (map placement_of s))) none).1 (λ e. ne (ap (λ k. suc k) e)) at

both_swap : (a b : Bool) → (a && b) ≡ (b && a)
both_swap true true = refl
both_swap true false = refl
both_swap false true = refl
both_swap false false = refl

overlap_swap : (p q : Placement) → overlap p q ≡ overlap q p
overlap_swap p q = both_swap (nat_lt p.base (q.base + q.size)) (nat_lt q.base (p.base + p.size))

module _ (s : List Module) (i base : ℕ) (before : first_standing (places_tests s) ≡ None) (move : first_standing (move_tests (map placement_of s) i base) ≡ None) where
  move_fits : Fits (others_than i (map placement_of s)) (record (placement_at (map placement_of s) i) { base = base })
  move_fits =
      let ps = map placement_of s in
      let there = none_stands (move_tests ps i base) 0 _ move refl in
      fits (others_than i ps) i (record (placement_at ps i) { base = base }) (rw there at move)

  moved_fits : (n m : Module) → slice_get s i ≡ Some n → m ≡ record n { base = base } → Fits (others_than i (map placement_of s)) (placement_of m)
  moved_fits n m at is =
      subst (λ (m : Module). Fits (others_than i (map placement_of s)) (placement_of m)) (sym is)
      (subst (λ (p : Placement). Fits (others_than i (map placement_of s)) (record p { base = base })) (placed_at s i n at) move_fits)

  -- the moved image is where it may be
  mover_stands : (j : ℕ) (n m : Module) → j ≡ i → slice_get s i ≡ Some n → m ≡ record n { base = base } → Stands (moved s i base) j m
  mover_stands j n m here at is =
      let ok = moved_fits n m at is in
      record {
        alike = alike_moved s i base m ∙ ap (has_other_magic s) is ∙ alike_at s n base ∙ (stands s before i n at).alike;
        fits = record {
          aligned = ok.aligned;
          room = ok.room;
          preferred = ok.preferred;
          free = all_before (placement_of m) (moved s i base) j (λ k q lt got. elim (got_moved s i base k q got) [
            | inl same ↦ (let e = same.0 in absurd (omega (arith, e, here, lt)))
            | inr other ↦ free_of_others (placement_of m) s i k q ok.free other.0 other.1
          ]);
        };
      }

  -- and so is each other, which it does not meet
  other_stands : (j : ℕ) (m : Module) → (j ≡ i → ⊥) → slice_get s j ≡ Some m → Stands (moved s i base) j m
  other_stands j m ne at =
      let ok = stands s before j m at in
      record {
        alike = alike_moved s i base m ∙ ok.alike;
        fits = record {
          aligned = ok.fits.aligned;
          room = ok.fits.room;
          preferred = ok.fits.preferred;
          free = all_before (placement_of m) (moved s i base) j (λ k q lt got. elim (got_moved s i base k q got) [
            | inl mover ↦ overlap_swap (placement_of m) (placement_of q) ∙ free_of_others (placement_of q) s i j m (moved_fits mover.1.0 q mover.1.1 mover.1.2).free ne at
            | inr other ↦ none_before (placement_of m) s k j q ok.fits.free lt other.1
          ]);
        };
      }

  pub moved_stand : first_standing (places_tests (moved s i base)) ≡ None
  moved_stand = all_stand (moved s i base) (λ j m at. elim (got_moved s i base j m at) [
    | inl here ↦ mover_stands j here.1.0 m here.0 here.1.1 here.1.2
    | inr other ↦ other_stands j m other.0 other.1
  ])

-- an accepted set is accepted with an image moved, if the move has no fault
pub accepted_moved : (policy : Policy) (es : List Entry) (i base : ℕ) → set_error policy es ≡ None
    → first_standing (move_tests (map placement_of (modules_of es)) i base) ≡ None
    → set_error policy (at_bases (slice_set (bases_of es) i base) es) ≡ None
accepted_moved policy es i base none move =
    accepted_at policy es (slice_set (bases_of es) i base) none
    (ap (λ s. first_standing (places_tests s)) (images_moved es i base) ∙ moved_stand (modules_of es) i base (classes policy es none).places move)
