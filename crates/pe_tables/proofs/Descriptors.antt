-- The descriptors of an import table, one by one.
use Rattle.std.proofs.Common.{◌≡◌, ℕ, zero, suc, ◌+◌, ◌-◌, ◌≤◌, true, false, List, [], ◌∷◌, ◌++◌, Some, None, refl, sym, ap, ◌∙◌, append_assoc, arith, inl, inr, subst}
use Rattle.std.specs.Prelude.{if◌then◌else◌, IsTrue}
use Rattle.std.specs.List.{flat_map}
use Rattle.std.proofs.lemmas.Bool.{cases_Bool}
use Rattle.pe_view.specs.declared.fault.Fault.{Fault}
use Rattle.pe_view.specs.Faults.{first_standing}
use Rattle.pe_view.specs.FirstStanding.{first-past, first-in}
use Rattle.pe_layout.specs.Image.{LaidOut}
use Rattle.pe_tables.specs.Imports.{Import, descriptor_at, descriptors_from, ends_list, imports_in}
use Rattle.pe_tables.specs.ImportFaults.{descriptor_tests, descriptors_tests}
use Rattle.pe_tables.specs.declared.imports.Descriptor.{Descriptor}
use Rattle.pe_tables.specs.TableFaults.{goes_past}
use Rattle.pe_tables.proofs.Past.{past-in, past-later}
use Rattle.pe_tables.proofs.Lookups.{inside_of, past_ends}

-- the descriptors after the first
abbrev pub descriptors_behind : ℕ → LaidOut → ℕ → List Descriptor
descriptors_behind zero i rva = []
descriptors_behind (suc n) i rva = if ends_list i (descriptor_at i rva) then [] else descriptors_from n i (rva + 20)

descriptors-first : (n : ℕ) (i : LaidOut) (rva : ℕ) → descriptors_from n i rva ≡ descriptor_at i rva ∷ descriptors_behind n i rva
descriptors-first zero i rva = refl
descriptors-first (suc n) i rva = refl

-- a descriptor that ends the list is the last
pub descriptors-end : (n : ℕ) (i : LaidOut) (rva : ℕ) → ends_list i (descriptor_at i rva) ≡ true → descriptors_from n i rva ≡ descriptor_at i rva ∷ []
descriptors-end zero i rva ends = refl
descriptors-end (suc n) i rva ends = rw ends refl

pub descriptors-more : (n : ℕ) (i : LaidOut) (rva : ℕ) → ends_list i (descriptor_at i rva) ≡ false → descriptors_from (suc n) i rva ≡ descriptor_at i rva ∷ descriptors_from n i (rva + 20)
descriptors-more n i rva goes = rw goes refl

-- more descriptors than an image has room for are all of them
pub descriptors-enough : (i : LaidOut) (n m rva : ℕ) → i.size ≤ rva + n → i.size ≤ rva + m → descriptors_from n i rva ≡ descriptors_from m i rva
descriptors-enough i zero m rva le le' = sym (descriptors-end m i rva (past_ends (rva + 20) i.size _ (omega arith)))
descriptors-enough i (suc n) zero rva le le' = descriptors-end (suc n) i rva (past_ends (rva + 20) i.size _ (omega arith))
descriptors-enough i (suc n) (suc m) rva le le' = elim (cases_Bool (ends_list i (descriptor_at i rva))) [
  | inl ends ↦ descriptors-end (suc n) i rva ends ∙ sym (descriptors-end (suc m) i rva ends)
  | inr goes ↦
      (descriptors-more n i rva goes
      ∙ ap (λ (ds : List Descriptor). descriptor_at i rva ∷ ds) (descriptors-enough i n m (rva + 20) (omega arith) (omega arith))
      ∙ sym (descriptors-more m i rva goes))
]

-- the descriptors from an RVA on, where the list continues
pub descriptors-step : (i : LaidOut) (rva : ℕ) → ends_list i (descriptor_at i rva) ≡ false → descriptors_from (i.size - rva) i rva ≡ descriptor_at i rva ∷ descriptors_from (i.size - (rva + 20)) i (rva + 20)
descriptors-step i rva goes =
    let inside : rva + 20 ≤ i.size = inside_of (rva + 20) i.size _ goes in
    let n : ℕ = i.size - rva - 1 in
    let e : i.size - rva ≡ suc n = omega arith in
    ap (λ (m : ℕ). descriptors_from m i rva) e ∙ descriptors-more n i rva goes
    ∙ ap (λ (ds : List Descriptor). descriptor_at i rva ∷ ds) (descriptors-enough i n (i.size - (rva + 20)) (rva + 20) (omega arith) (omega arith))

module _ (i : LaidOut) (before : List Import) (rva : ℕ) where
  abbrev here : Descriptor
  here = descriptor_at i rva

  -- a descriptor with a fault
  pub descriptors-in : (n : ℕ) (y : Fault) → first_standing (descriptor_tests i before here) ≡ Some y → first_standing (descriptors_tests i before (descriptors_from n i rva)) ≡ Some y
  unfolding descriptors_tests
  descriptors-in n y some =
      ap (λ ds. first_standing (descriptors_tests i before ds)) (descriptors-first n i rva)
      ∙ first-in (descriptor_tests i before here) (descriptors_tests i (before ++ imports_in i here) (descriptors_behind n i rva)) y some

  -- a descriptor without one, after which others follow
  pub descriptors-past : (left : List Descriptor) (n : ℕ) → descriptors_from n i rva ≡ here ∷ left → first_standing (descriptor_tests i before here) ≡ None
      → first_standing (descriptors_tests i before (descriptors_from n i rva)) ≡ first_standing (descriptors_tests i (before ++ imports_in i here) left)
  unfolding descriptors_tests
  descriptors-past left n e none =
      ap (λ ds. first_standing (descriptors_tests i before ds)) e
      ∙ first-past (descriptor_tests i before here) (descriptors_tests i (before ++ imports_in i here) left) none

  -- the imports read and those left
  pub descriptors-imports : (left : List Descriptor) (n : ℕ) → descriptors_from n i rva ≡ here ∷ left
      → before ++ flat_map (imports_in i) (descriptors_from n i rva) ≡ (before ++ imports_in i here) ++ flat_map (imports_in i) left
  descriptors-imports left n e =
      ap (λ ds. before ++ flat_map (imports_in i) ds) e
      ∙ sym (append_assoc before (imports_in i here) (flat_map (imports_in i) left))

  -- the last fault of an import of the descriptor was tested
  pub descriptors-asked : (n : ℕ) → IsTrue (goes_past 31 (descriptor_tests i before here)) → IsTrue (goes_past 31 (descriptors_tests i before (descriptors_from n i rva)))
  unfolding descriptors_tests
  descriptors-asked n past =
      subst (λ (ds : List Descriptor). IsTrue (goes_past 31 (descriptors_tests i before ds))) (sym (descriptors-first n i rva))
      (past-in 31 (descriptor_tests i before here) (descriptors_tests i (before ++ imports_in i here) (descriptors_behind n i rva)) past)

  -- that of an import of a later one
  pub descriptors-asked_later : (left : List Descriptor) (n : ℕ) → descriptors_from n i rva ≡ here ∷ left → first_standing (descriptor_tests i before here) ≡ None
      → IsTrue (goes_past 31 (descriptors_tests i (before ++ imports_in i here) left)) → IsTrue (goes_past 31 (descriptors_tests i before (descriptors_from n i rva)))
  unfolding descriptors_tests
  descriptors-asked_later left n e none past =
      subst (λ (ds : List Descriptor). IsTrue (goes_past 31 (descriptors_tests i before ds))) (sym e)
      (past-later 31 (descriptor_tests i before here) (descriptors_tests i (before ++ imports_in i here) left) none past)

pub descriptors-none : (i : LaidOut) (before : List Import) → first_standing (descriptors_tests i before []) ≡ None
unfolding descriptors_tests
descriptors-none i before = refl
