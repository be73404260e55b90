-- The entries of a lookup table, entry by entry.
use Rattle.std.proofs.Common.{◌≡◌, ℕ, zero, suc, ◌+◌, ◌-◌, ◌<◌, ◌≤◌, Bool, true, false, List, [], ◌∷◌, ◌++◌, Some, None, refl, sym, ap, ◌∙◌, ◌||◌, append_assoc, arith, inl, inr, subst}
use Rattle.std.specs.Prelude.{nat_le, not, ◌==◌, option_to_list, if◌then◌else◌, IsTrue}
use Rattle.std.specs.List.{filter_map}
use Rattle.std.proofs.lemmas.Bool.{or_parts, cases_Bool}
use Rattle.std.proofs.lemmas.Bool.Decides.{nat_tests}
use Rattle.pe_view.specs.declared.fault.Fault.{Fault}
use Rattle.pe_view.specs.Faults.{Test, first_standing}
use Rattle.pe_view.specs.FirstStanding.{first-past, first-in, none_stands}
use Rattle.pe_layout.specs.Image.{LaidOut, is_inside, fault_at}
use Rattle.pe_tables.specs.Imports.{Import, Lookup, lookup_at, lookups_from, ends_table, import_of}
use Rattle.pe_tables.specs.ImportFaults.{key_tests, slot_tests, lookup_tests, lookups_tests}
use Rattle.pe_tables.specs.TableFaults.{goes_past}
use Rattle.pe_tables.proofs.Past.{past-in, past-later}
use Rattle.pe_tables.proofs.Entries.{filter_map-cons}

pub inside_of : (n limit : ℕ) (rest : Bool) → (not (nat_le n limit) || rest) ≡ false → n ≤ limit
inside_of n limit rest e = grind (arith, nat_tests)

pub past_ends : (n limit : ℕ) (rest : Bool) → limit < n → (not (nat_le n limit) || rest) ≡ true
past_ends n limit rest lt = let e : nat_le n limit ≡ false = grind (arith, nat_tests) in rw e refl

-- the entries after the first
abbrev pub lookups_behind : ℕ → LaidOut → ℕ → ℕ → List Lookup
lookups_behind zero i rva slot = []
lookups_behind (suc n) i rva slot = if ends_table i (lookup_at i rva slot) then [] else lookups_from n i (rva + i.slot_width) (slot + i.slot_width)

lookups-first : (n : ℕ) (i : LaidOut) (rva slot : ℕ) → lookups_from n i rva slot ≡ lookup_at i rva slot ∷ lookups_behind n i rva slot
lookups-first zero i rva slot = refl
lookups-first (suc n) i rva slot = refl

-- an entry that ends the table is the last
pub lookups-end : (n : ℕ) (i : LaidOut) (rva slot : ℕ) → ends_table i (lookup_at i rva slot) ≡ true → lookups_from n i rva slot ≡ lookup_at i rva slot ∷ []
lookups-end zero i rva slot ends = refl
lookups-end (suc n) i rva slot ends = rw ends refl

pub lookups-more : (n : ℕ) (i : LaidOut) (rva slot : ℕ) → ends_table i (lookup_at i rva slot) ≡ false → lookups_from (suc n) i rva slot ≡ lookup_at i rva slot ∷ lookups_from n i (rva + i.slot_width) (slot + i.slot_width)
lookups-more n i rva slot goes = rw goes refl

module _ (i : LaidOut) (some : 0 < i.slot_width) where
  -- more entries than an image has room for are all of them
  pub lookups-enough : (n m rva slot : ℕ) → i.size ≤ rva + n → i.size ≤ rva + m → lookups_from n i rva slot ≡ lookups_from m i rva slot
  lookups-enough zero m rva slot le le' = sym (lookups-end m i rva slot (past_ends (rva + i.slot_width) i.size _ (omega arith)))
  lookups-enough (suc n) zero rva slot le le' = lookups-end (suc n) i rva slot (past_ends (rva + i.slot_width) i.size _ (omega arith))
  lookups-enough (suc n) (suc m) rva slot le le' = elim (cases_Bool (ends_table i (lookup_at i rva slot))) [
    | inl ends ↦ lookups-end (suc n) i rva slot ends ∙ sym (lookups-end (suc m) i rva slot ends)
    | inr goes ↦
        (lookups-more n i rva slot goes
        ∙ ap (λ (ls : List Lookup). lookup_at i rva slot ∷ ls) (lookups-enough n m (rva + i.slot_width) (slot + i.slot_width) (omega arith) (omega arith))
        ∙ sym (lookups-more m i rva slot goes))
  ]

  -- the entries from an RVA on, where the table continues
  pub lookups-step : (rva slot : ℕ) → ends_table i (lookup_at i rva slot) ≡ false
      → lookups_from (i.size - rva) i rva slot ≡ lookup_at i rva slot ∷ lookups_from (i.size - (rva + i.slot_width)) i (rva + i.slot_width) (slot + i.slot_width)
  lookups-step rva slot goes =
      let inside : rva + i.slot_width ≤ i.size = inside_of (rva + i.slot_width) i.size _ goes in
      let n : ℕ = i.size - rva - 1 in
      let e : i.size - rva ≡ suc n = omega arith in
      ap (λ (m : ℕ). lookups_from m i rva slot) e ∙ lookups-more n i rva slot goes
      ∙ ap (λ (ls : List Lookup). lookup_at i rva slot ∷ ls) (lookups-enough n (i.size - (rva + i.slot_width)) (rva + i.slot_width) (slot + i.slot_width) (omega arith) (omega arith))

module _ (i : LaidOut) (module_name : List ℕ) (before : List Import) (rva slot : ℕ) where
  abbrev here : Lookup
  here = lookup_at i rva slot

  abbrev with_here : List Import
  with_here = before ++ option_to_list (import_of i module_name here)

  -- an entry with a fault
  pub lookups-in : (n : ℕ) (y : Fault) → first_standing (lookup_tests i before here) ≡ Some y → first_standing (lookups_tests i module_name before (lookups_from n i rva slot)) ≡ Some y
  unfolding lookups_tests
  lookups-in n y some =
      ap (λ ls. first_standing (lookups_tests i module_name before ls)) (lookups-first n i rva slot)
      ∙ first-in (lookup_tests i before here) (lookups_tests i module_name with_here (lookups_behind n i rva slot)) y some

  -- an entry without one, after which others follow
  pub lookups-past : (left : List Lookup) (n : ℕ) → lookups_from n i rva slot ≡ here ∷ left → first_standing (lookup_tests i before here) ≡ None
      → first_standing (lookups_tests i module_name before (lookups_from n i rva slot)) ≡ first_standing (lookups_tests i module_name with_here left)
  unfolding lookups_tests
  lookups-past left n e none =
      ap (λ ls. first_standing (lookups_tests i module_name before ls)) e
      ∙ first-past (lookup_tests i before here) (lookups_tests i module_name with_here left) none

  -- the imports read and those left
  pub lookups-imports : (left : List Lookup) (n : ℕ) → lookups_from n i rva slot ≡ here ∷ left
      → before ++ filter_map (import_of i module_name) (lookups_from n i rva slot) ≡ with_here ++ filter_map (import_of i module_name) left
  lookups-imports left n e =
      ap (λ ls. before ++ filter_map (import_of i module_name) ls) e
      ∙ ap (λ (more : List Import). before ++ more) (filter_map-cons (import_of i module_name) here left)
      ∙ sym (append_assoc before (option_to_list (import_of i module_name here)) (filter_map (import_of i module_name) left))

  -- the entry's last fault was tested
  pub lookups-asked : (n : ℕ) → IsTrue (goes_past 31 (lookup_tests i before here)) → IsTrue (goes_past 31 (lookups_tests i module_name before (lookups_from n i rva slot)))
  unfolding lookups_tests
  lookups-asked n past =
      subst (λ (ls : List Lookup). IsTrue (goes_past 31 (lookups_tests i module_name before ls))) (sym (lookups-first n i rva slot))
      (past-in 31 (lookup_tests i before here) (lookups_tests i module_name with_here (lookups_behind n i rva slot)) past)

  -- that of a later one
  pub lookups-asked_later : (left : List Lookup) (n : ℕ) → lookups_from n i rva slot ≡ here ∷ left → first_standing (lookup_tests i before here) ≡ None
      → IsTrue (goes_past 31 (lookups_tests i module_name with_here left)) → IsTrue (goes_past 31 (lookups_tests i module_name before (lookups_from n i rva slot)))
  unfolding lookups_tests
  lookups-asked_later left n e none past =
      subst (λ (ls : List Lookup). IsTrue (goes_past 31 (lookups_tests i module_name before ls))) (sym e)
      (past-later 31 (lookup_tests i before here) (lookups_tests i module_name with_here left) none past)

pub lookups-none : (i : LaidOut) (module_name : List ℕ) (before : List Import) → first_standing (lookups_tests i module_name before []) ≡ None
unfolding lookups_tests
lookups-none i module_name before = refl

pub negated : (b : Bool) → not b ≡ true → b ≡ false
negated true e = absurd cc
negated false e = refl

pub affirmed : (b : Bool) → not b ≡ false → b ≡ true
affirmed true e = refl
affirmed false e = absurd cc

pub leb-≤ : (n limit : ℕ) → nat_le n limit ≡ true → n ≤ limit
leb-≤ n limit e = grind (arith, nat_tests)

slot_by : (i : LaidOut) (l : Lookup) (first : Test) (before : List Import) → first_standing (first ∷ (key_tests i l.rva l.value ++ slot_tests i before l.rva l.slot)) ≡ None → is_inside i l.slot i.slot_width ≡ true
slot_by i l first before none =
    affirmed (is_inside i l.slot i.slot_width)
    (none_stands (first ∷ (key_tests i l.rva l.value ++ slot_tests i before l.rva l.slot)) 3 (record { stands = not (is_inside i l.slot i.slot_width); fault = fault_at 29 i l.rva }) none refl)

-- the slot of an entry without a fault that does not end the table
pub slot_inside : (i : LaidOut) (before : List Import) (l : Lookup) → ends_table i l ≡ false → first_standing (lookup_tests i before l) ≡ None → l.slot + i.slot_width ≤ i.size
slot_inside i before l goes none =
    let some : (l.value == 0) ≡ false = (or_parts _ _ goes).1 in
    leb-≤ _ _ (slot_by i l (record { stands = not (is_inside i l.rva i.slot_width); fault = fault_at 26 i l.rva }) before (rw some at none))
