-- The operations of unwind information, one after the other.
use Rattle.std.proofs.Common.{◌≡◌, ◌∙◌, refl, ℕ, zero, suc, ◌+◌, ◌-◌, ◌*◌, ◌<◌, ◌≤◌, Bool, true, false, cond, List, [], ◌∷◌, ◌++◌, map, Option, Some, None, sym, ap, arith}
use Rattle.std.specs.Prelude.{Result, Ok, Err}
use Rattle.std.specs.List.{flat_map}
use Rattle.std.proofs.lemmas.Bool.{or_parts, ltb-false}
use Rattle.pe_view.specs.declared.fault.Fault.{Fault}
use Rattle.pe_view.specs.Faults.{first_standing}
use Rattle.pe_view.specs.FirstStanding.{none_stands}
use Rattle.pe_layout.specs.Image.{LaidOut}
use Rattle.pe_unwind.specs.Operations.{and_then, code_at, info_at, is_far, is_near, operation_at, operation_tests, operations_from, read_operation, slot_count, slots_at, slots_from, slots_of, unless}
use Rattle.pe_unwind.specs.declared.operation.Operation.{Operation}

-- what is read, and no fault stands in its place
unless_ok : {X : Type 0} (o : Option Fault) (x y : X) → unless o x ≡ Ok y → (o ≡ None) × (x ≡ y)
unless_ok None x y is = (refl, cc)
unless_ok (Some fault) x y is = absurd cc

one_more : (a b : Bool) → 1 ≤ cond a 3 (cond b 2 1)
one_more true b = omega arith
one_more false true = omega arith
one_more false false = omega arith

-- an operation takes a slot
pub takes_one : (code info : ℕ) → 1 ≤ slot_count code info
takes_one code info = one_more (is_far code info) (is_near code info)

-- the first of a list of operations, and the others
first_is : (r : Result Operation Fault) (rest ys : List (Result Operation Fault)) (o : Operation) → and_then r rest ≡ Ok o ∷ ys → (r ≡ Ok o) × (rest ≡ ys)
first_is (Ok x) rest ys o is = (cc, cc)
first_is (Err fault) rest ys o is = absurd cc

some_first : {Y : Type 0} (r : Result Operation Fault) (rest : List (Result Operation Fault)) → and_then r rest ≡ [] → Y
some_first (Ok x) rest is = absurd cc
some_first (Err fault) rest is = absurd cc

module _ (i : LaidOut) (version : ℕ) where
  -- what is read is the operation there, and as many slots are left as it takes
  pub is_there : (left at : ℕ) (o : Operation) → read_operation i version left at ≡ Ok o → (operation_at i at ≡ o) × (slots_at i at ≤ left)
  is_there left at o is =
      let parts = unless_ok (first_standing (operation_tests i version left at)) (operation_at i at) o is in
      let third = none_stands (operation_tests i version left at) 2 _ parts.0 refl in (
        parts.1,
        ltb-false left (slots_at i at) (or_parts _ _ third).0,
      )

  -- the slots of the operation before are passed
  past : (taken left at : ℕ) → taken ≤ left → operations_from i version left taken at ≡ operations_from i version (left - taken) 0 (at + 2 * taken)
  past zero left at le =
      let same : left - 0 ≡ left = omega arith in
      let here : at + 2 * 0 ≡ at = omega arith in
      sym (ap (λ (n : ℕ). operations_from i version n 0 (at + 2 * 0)) same ∙ ap (λ (a : ℕ). operations_from i version left 0 a) here)
  past (suc taken) zero at le = absurd (omega (arith, le))
  past (suc taken) (suc left) at le =
      let fewer : left - taken ≡ suc left - suc taken = omega arith in
      let there : at + 2 + 2 * taken ≡ at + 2 * suc taken = omega arith in
      past taken left (at + 2) (omega (arith, le))
      ∙ ap (λ (n : ℕ). operations_from i version n 0 (at + 2 + 2 * taken)) fewer
      ∙ ap (λ (a : ℕ). operations_from i version (suc left - suc taken) 0 a) there

  -- an operation, and those after its slots
  pub goes_on : (left at : ℕ) (o : Operation) → 0 < left → read_operation i version left at ≡ Ok o
      → operations_from i version left 0 at ≡ Ok o ∷ operations_from i version (left - slot_count o.code o.info) 0 (at + 2 * slot_count o.code o.info)
  goes_on zero at o some is = absurd (omega (arith, some))
  goes_on (suc left) at o some is =
      let parts = is_there (suc left) at o is in
      let w : ℕ = slots_at i at in
      let one : 1 ≤ w = takes_one (code_at i at) (info_at i at) in
      let le : w ≤ suc left = parts.1 in
      let fewer : left - (w - 1) ≡ suc left - w = omega (arith, one, le) in
      let there : at + 2 + 2 * (w - 1) ≡ at + 2 * w = omega (arith, one) in
      let first : Result Operation Fault = Ok o in
      ap (λ (r : Result Operation Fault). and_then r (operations_from i version left (w - 1) (at + 2))) is
      ∙ ap (λ (rest : List (Result Operation Fault)). first ∷ rest) (past (w - 1) left (at + 2) (omega (arith, one, le)))
      ∙ ap (λ (n : ℕ). first ∷ operations_from i version n 0 (at + 2 + 2 * (w - 1))) fewer
      ∙ ap (λ (a : ℕ). first ∷ operations_from i version (suc left - w) 0 a) there
      ∙ ap (λ (x : Operation). first ∷ operations_from i version (suc left - slot_count x.code x.info) 0 (at + 2 * slot_count x.code x.info)) parts.0

  -- a finding ends them
  pub ends : (left at : ℕ) (fault : Fault) → 0 < left → read_operation i version left at ≡ Err fault → operations_from i version left 0 at ≡ Err fault ∷ []
  ends zero at fault some is = absurd (omega (arith, some))
  ends (suc left) at fault some is = ap (λ (r : Result Operation Fault). and_then r (operations_from i version left (slots_at i at - 1) (at + 2))) is

  -- without a finding the slots of the operations are all that there are
  pub take_all : (left taken at : ℕ) (os : List Operation) → taken ≤ left → operations_from i version left taken at ≡ map Ok os
      → slots_from at taken ++ flat_map slots_of os ≡ slots_from at left
  take_all zero zero at [] le is = refl
  take_all zero zero at (o ∷ os) le is = absurd cc
  take_all zero (suc taken) at os le is = absurd (omega (arith, le))
  take_all (suc left) (suc taken) at os le is = ap (λ (xs : List ℕ). at ∷ xs) (take_all left taken (at + 2) os (omega (arith, le)) is)
  take_all (suc left) zero at [] le is = some_first (read_operation i version (suc left) at) _ is
  take_all (suc left) zero at (o ∷ os) le is =
      let w : ℕ = slots_at i at in
      let parts = first_is (read_operation i version (suc left) at) (operations_from i version left (w - 1) (at + 2)) (map Ok os) o is in
      let there = is_there (suc left) at o parts.0 in
      let one : 1 ≤ w = takes_one (code_at i at) (info_at i at) in
      let enough : w ≤ suc left = there.1 in
      let more : w ≡ suc (w - 1) = omega (arith, one) in
      ap (λ (x : Operation). slots_of x ++ flat_map slots_of os) (sym there.0)
      ∙ ap (λ (n : ℕ). slots_from at n ++ flat_map slots_of os) more
      ∙ ap (λ (xs : List ℕ). at ∷ xs) (take_all left (w - 1) (at + 2) os (omega (arith, one, enough)) parts.1)
