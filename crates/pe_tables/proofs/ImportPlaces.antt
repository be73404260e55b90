-- The imports of a table are the entries of its descriptors.
use Rattle.std.proofs.Common.{◌≡◌, ◌≢◌, ℕ, zero, suc, ◌+◌, ◌*◌, ◌<◌, ◌≤◌, true, false, List, [], ◌∷◌, Some, None, refl, sym, ap, subst, ◌∙◌, arith, inl, inr}
use Rattle.std.specs.Prelude.{◌==◌, nat_le, not, Contains}
use Rattle.std.specs.List.{filter_map, flat_map}
use Rattle.std.proofs.lemmas.Bool.{cases_Bool, or_parts, le-leb}
use Rattle.std.proofs.lemmas.Bool.Decides.{nat_tests}
use Rattle.std.proofs.lemmas.Option.{none-some, same_Some}
use Rattle.std.proofs.lemmas.List.Elements.{Contains-append_left, Contains-append_right, Contains-append_cases}
use Rattle.std.proofs.Math.Nat.{mul-suc}
use Rattle.pe_head.specs.declared.directory.Directory.{Directory}
use Rattle.pe_layout.specs.Image.{LaidOut, number_at}
use Rattle.pe_tables.specs.Imports.{Import, Lookup, descriptor_at, descriptors_from, ends_list, lookup_at, lookups_from, lookups_of, ends_table, key_of, import_of, module_of, imports_in, imports_at}
use Rattle.pe_tables.specs.ImportPlaces.{descriptor_rva, name_rva, addresses_rva, table_rva, HasDescriptor, HasEntry, IsInList, IsInTable, IsImported}
use Rattle.pe_tables.specs.declared.imports.Descriptor.{Descriptor}
use Rattle.pe_tables.proofs.Holding.{nothing, onto_cases, onto_here, onto_later}
use Rattle.pe_tables.proofs.Lookups.{inside_of, lookups-end, lookups-more}
use Rattle.pe_tables.proofs.Descriptors.{descriptors-end, descriptors-more}

not_zero : (n : ℕ) → (n == 0) ≡ false → n ≢ 0
not_zero n unequal e = grind (arith, nat_tests)

zero_not : (n : ℕ) → n ≢ 0 → (n == 0) ≡ false
zero_not zero ne = absurd (ne refl)
zero_not (suc n) ne = grind (arith, nat_tests)

inside_test : (n limit : ℕ) → n ≤ limit → not (nat_le n limit) ≡ false
inside_test n limit le = let e : nat_le n limit ≡ true = le-leb _ _ le in rw e refl

pub has_entry : (i : LaidOut) (rva slot : ℕ) → ends_table i (lookup_at i rva slot) ≡ false → HasEntry i rva
has_entry i rva slot goes = (inside_of _ _ _ goes, not_zero _ (or_parts _ _ goes).1)

pub table_goes : (i : LaidOut) (rva slot : ℕ) → HasEntry i rva → ends_table i (lookup_at i rva slot) ≡ false
table_goes i rva slot has =
    let inside = inside_test _ _ has.0 in
    let some = zero_not (number_at i.slot_width i rva) has.1 in
    rw (inside, some) refl

pub has_descriptor : (i : LaidOut) (rva : ℕ) → ends_list i (descriptor_at i rva) ≡ false → HasDescriptor i rva
has_descriptor i rva goes =
    let named = or_parts _ _ (or_parts _ _ goes).1 in
    (inside_of _ _ _ goes, not_zero _ named.0, not_zero _ named.1)

pub list_goes : (i : LaidOut) (rva : ℕ) → HasDescriptor i rva → ends_list i (descriptor_at i rva) ≡ false
list_goes i rva has =
    let inside = inside_test _ _ has.0 in
    let name = zero_not (name_rva i rva) has.1 in
    let addresses = zero_not (addresses_rva i rva) has.2 in
    rw (inside, name, addresses) refl

-- what holds at each step of a width from a place, up to step k
abbrev pub UpTo : (ℕ → Type 0) → ℕ → ℕ → ℕ → Type 0
UpTo P from width k = (m : ℕ) → m ≤ k → P (from + width * m)

pub start : (from width : ℕ) → from ≡ from + width * 0
start from width = omega arith

pub step : (from width k : ℕ) → from + width + width * k ≡ from + width * suc k
step from width k = let e = mul-suc width k in omega (arith, e)

module _ (P : ℕ → Type 0) (from width : ℕ) where
  up_zero : P from → UpTo P from width 0
  up_zero here zero le = subst P (start from width) here
  up_zero here (suc m) le = absurd (omega arith)

  up_suc : (k : ℕ) → P from → UpTo P (from + width) width k → UpTo P from width (suc k)
  up_suc k here later zero le = subst P (start from width) here
  up_suc k here later (suc m) le = subst P (step from width m) (later m (omega arith))

  pub first_of : (k : ℕ) → UpTo P from width k → P from
  first_of k all = subst P (sym (start from width)) (all 0 (omega arith))

  pub behind : (k : ℕ) → UpTo P from width (suc k) → UpTo P (from + width) width k
  behind k all m le = subst P (sym (step from width m)) (all (suc m) (omega arith))

module _ (i : LaidOut) (module_name : List ℕ) (import : Import) where
  -- what the entry at an RVA imports
  abbrev made : ℕ → ℕ → Import
  made rva slot = record { module_name = module_name; key = key_of i (number_at i.slot_width i rva); slot = slot }

  -- an entry from an RVA on imports it
  abbrev IsEntryFrom : ℕ → ℕ → ℕ → Type 0
  IsEntryFrom rva slot k = IsInTable i rva k × (import ≡ made (rva + i.slot_width * k) (slot + i.slot_width * k))

  abbrev imports_from : List Lookup → List Import
  imports_from ls = filter_map (import_of i module_name) ls

  none_of : (rva slot : ℕ) → ends_table i (lookup_at i rva slot) ≡ true → import_of i module_name (lookup_at i rva slot) ≡ None
  none_of rva slot ends = rw ends refl

  some_of : (rva slot : ℕ) → ends_table i (lookup_at i rva slot) ≡ false → import_of i module_name (lookup_at i rva slot) ≡ Some (made rva slot)
  some_of rva slot goes = rw goes refl

  same_made : (rva rva' slot slot' : ℕ) → rva ≡ rva' → slot ≡ slot' → made rva slot ≡ made rva' slot'
  same_made rva rva' slot slot' e f = ap (λ (n : ℕ). made n slot) e ∙ ap (λ (n : ℕ). made rva' n) f

  entry_here : (rva slot : ℕ) → import_of i module_name (lookup_at i rva slot) ≡ Some import → (k : ℕ) × IsEntryFrom rva slot k
  entry_here rva slot is = elim (cases_Bool (ends_table i (lookup_at i rva slot))) [
    | inl ends ↦ absurd (none-some import (sym (none_of rva slot ends) ∙ is))
    | inr goes ↦ (
      0,
      (
        up_zero (HasEntry i) rva i.slot_width (has_entry i rva slot goes),
        sym (same_Some _ _ (sym (some_of rva slot goes) ∙ is)) ∙ same_made rva (rva + i.slot_width * 0) slot (slot + i.slot_width * 0) (start rva i.slot_width) (start slot i.slot_width),
      ),
    )
  ]

  entry_later : (rva slot k : ℕ) → HasEntry i rva → IsEntryFrom (rva + i.slot_width) (slot + i.slot_width) k → IsEntryFrom rva slot (suc k)
  entry_later rva slot k has later = (
    up_suc (HasEntry i) rva i.slot_width k has later.0,
    later.1 ∙ same_made (rva + i.slot_width + i.slot_width * k) (rva + i.slot_width * suc k) (slot + i.slot_width + i.slot_width * k) (slot + i.slot_width * suc k) (step rva i.slot_width k) (step slot i.slot_width k),
  )

  only_entry : (rva slot : ℕ) → Contains (imports_from (lookup_at i rva slot ∷ [])) import → (k : ℕ) × IsEntryFrom rva slot k
  only_entry rva slot has = elim (onto_cases (import_of i module_name (lookup_at i rva slot)) [] import has) [
    | inl is ↦ entry_here rva slot is
    | inr none ↦ absurd (nothing import none)
  ]

  entry_of : (n rva slot : ℕ) → Contains (imports_from (lookups_from n i rva slot)) import → (k : ℕ) × IsEntryFrom rva slot k
  entry_of zero rva slot has = only_entry rva slot has
  entry_of (suc n) rva slot has = elim (cases_Bool (ends_table i (lookup_at i rva slot))) [
    | inl ends ↦ only_entry rva slot (subst (λ (ls : List Lookup). Contains (imports_from ls) import) (lookups-end (suc n) i rva slot ends) has)
    | inr goes ↦
        (let left : List Lookup = lookups_from n i (rva + i.slot_width) (slot + i.slot_width) in
        elim (onto_cases (import_of i module_name (lookup_at i rva slot)) (imports_from left) import (subst (λ (ls : List Lookup). Contains (imports_from ls) import) (lookups-more n i rva slot goes) has)) [
          | inl is ↦ entry_here rva slot is
          | inr later ↦ (let w = entry_of n (rva + i.slot_width) (slot + i.slot_width) later in (suc w.0, entry_later rva slot w.0 (has_entry i rva slot goes) w.1))
        ])
  ]

  entry_in : (n rva slot k : ℕ) → 0 < i.slot_width → i.size ≤ rva + n → IsInTable i rva k → import ≡ made (rva + i.slot_width * k) (slot + i.slot_width * k) → Contains (imports_from (lookups_from n i rva slot)) import
  entry_in zero rva slot k some room all is = let has = (first_of (HasEntry i) rva i.slot_width k all).0 in absurd (omega (arith, has))
  entry_in (suc n) rva slot zero some room all is =
      let goes = table_goes i rva slot (first_of (HasEntry i) rva i.slot_width 0 all) in
      subst (λ (ls : List Lookup). Contains (imports_from ls) import) (sym (lookups-more n i rva slot goes))
      (onto_here (import_of i module_name (lookup_at i rva slot)) (imports_from (lookups_from n i (rva + i.slot_width) (slot + i.slot_width))) import
      (some_of rva slot goes ∙ ap (λ (x : Import). Some x) (same_made rva (rva + i.slot_width * 0) slot (slot + i.slot_width * 0) (start rva i.slot_width) (start slot i.slot_width) ∙ sym is)))
  entry_in (suc n) rva slot (suc k) some room all is =
      let goes = table_goes i rva slot (first_of (HasEntry i) rva i.slot_width (suc k) all) in
      subst (λ (ls : List Lookup). Contains (imports_from ls) import) (sym (lookups-more n i rva slot goes))
      (onto_later (import_of i module_name (lookup_at i rva slot)) (imports_from (lookups_from n i (rva + i.slot_width) (slot + i.slot_width))) import
      (entry_in n (rva + i.slot_width) (slot + i.slot_width) k some (omega arith) (behind (HasEntry i) rva i.slot_width k all)
      (is ∙ sym (same_made (rva + i.slot_width + i.slot_width * k) (rva + i.slot_width * suc k) (slot + i.slot_width + i.slot_width * k) (slot + i.slot_width * suc k) (step rva i.slot_width k) (step slot i.slot_width k)))))

-- the imports of a descriptor that does not end the list
pub imports_here : (i : LaidOut) (rva : ℕ) → HasDescriptor i rva
    → imports_in i (descriptor_at i rva) ≡ filter_map (import_of i (module_of i (descriptor_at i rva))) (lookups_of i (descriptor_at i rva))
imports_here i rva has = rw (list_goes i rva has) refl

module _ (i : LaidOut) (import : Import) where
  -- descriptor j from an RVA on has the import
  abbrev IsDescriptorFrom : ℕ → ℕ → Type 0
  IsDescriptorFrom rva j = IsInList i rva j × Contains (imports_in i (descriptor_at i (descriptor_rva rva j))) import

  abbrev imports_among : List Descriptor → List Import
  imports_among ds = flat_map (imports_in i) ds

  descriptor_here : (rva : ℕ) → Contains (imports_in i (descriptor_at i rva)) import → (j : ℕ) × IsDescriptorFrom rva j
  descriptor_here rva has = elim (cases_Bool (ends_list i (descriptor_at i rva))) [
    | inl ends ↦ absurd (nothing import (subst (λ (xs : List Import). Contains xs import) (let e : imports_in i (descriptor_at i rva) ≡ [] = rw ends refl in e) has))
    | inr goes ↦ (
      0,
      (
        up_zero (HasDescriptor i) rva 20 (has_descriptor i rva goes),
        subst (λ (n : ℕ). Contains (imports_in i (descriptor_at i n)) import) (start rva 20) has,
      ),
    )
  ]

  descriptor_later : (rva j : ℕ) → HasDescriptor i rva → IsDescriptorFrom (rva + 20) j → IsDescriptorFrom rva (suc j)
  descriptor_later rva j has later =
      (up_suc (HasDescriptor i) rva 20 j has later.0, subst (λ (n : ℕ). Contains (imports_in i (descriptor_at i n)) import) (step rva 20 j) later.1)

  only_descriptor : (rva : ℕ) → Contains (imports_among (descriptor_at i rva ∷ [])) import → (j : ℕ) × IsDescriptorFrom rva j
  only_descriptor rva has = elim (Contains-append_cases (imports_in i (descriptor_at i rva)) [] import has) [
    | inl first ↦ descriptor_here rva first
    | inr none ↦ absurd (nothing import none)
  ]

  descriptor_of : (n rva : ℕ) → Contains (imports_among (descriptors_from n i rva)) import → (j : ℕ) × IsDescriptorFrom rva j
  descriptor_of zero rva has = only_descriptor rva has
  descriptor_of (suc n) rva has = elim (cases_Bool (ends_list i (descriptor_at i rva))) [
    | inl ends ↦ only_descriptor rva (subst (λ (ds : List Descriptor). Contains (imports_among ds) import) (descriptors-end (suc n) i rva ends) has)
    | inr goes ↦
        (let left : List Descriptor = descriptors_from n i (rva + 20) in
        elim (Contains-append_cases (imports_in i (descriptor_at i rva)) (imports_among left) import (subst (λ (ds : List Descriptor). Contains (imports_among ds) import) (descriptors-more n i rva goes) has)) [
          | inl first ↦ descriptor_here rva first
          | inr later ↦ (let w = descriptor_of n (rva + 20) later in (suc w.0, descriptor_later rva w.0 (has_descriptor i rva goes) w.1))
        ])
  ]

  descriptor_in : (n rva j : ℕ) → i.size ≤ rva + n → IsInList i rva j → Contains (imports_in i (descriptor_at i (descriptor_rva rva j))) import → Contains (imports_among (descriptors_from n i rva)) import
  descriptor_in zero rva j room all has = let inside = (first_of (HasDescriptor i) rva 20 j all).0 in absurd (omega (arith, inside))
  descriptor_in (suc n) rva zero room all has =
      let goes = list_goes i rva (first_of (HasDescriptor i) rva 20 0 all) in
      subst (λ (ds : List Descriptor). Contains (imports_among ds) import) (sym (descriptors-more n i rva goes))
      (Contains-append_left (imports_in i (descriptor_at i rva)) (imports_among (descriptors_from n i (rva + 20))) import
      (subst (λ (n : ℕ). Contains (imports_in i (descriptor_at i n)) import) (sym (start rva 20)) has))
  descriptor_in (suc n) rva (suc j) room all has =
      let goes = list_goes i rva (first_of (HasDescriptor i) rva 20 (suc j) all) in
      subst (λ (ds : List Descriptor). Contains (imports_among ds) import) (sym (descriptors-more n i rva goes))
      (Contains-append_right (imports_in i (descriptor_at i rva)) (imports_among (descriptors_from n i (rva + 20))) import
      (descriptor_in n (rva + 20) j (omega arith) (behind (HasDescriptor i) rva 20 j all)
      (subst (λ (n : ℕ). Contains (imports_in i (descriptor_at i n)) import) (sym (step rva 20 j)) has)))

pub named : (i : LaidOut) (d : Directory) (import : Import) → Contains (imports_at i (Some d)) import → IsImported i d import
named i d import has =
    let w = descriptor_of i import i.size d.rva has in
    let rva : ℕ = descriptor_rva d.rva w.0 in
    let entries = subst (λ (xs : List Import). Contains xs import) (imports_here i rva (w.1.0 w.0 (omega arith))) w.1.1 in
    let v = entry_of i (module_of i (descriptor_at i rva)) import i.size (table_rva i rva) (addresses_rva i rva) entries in
    (w.0, v.0, w.1.0, v.1.0, v.1.1)

pub contained : (i : LaidOut) (d : Directory) (import : Import) → 0 < i.slot_width → IsImported i d import → Contains (imports_at i (Some d)) import
contained i d import some named =
    let rva : ℕ = descriptor_rva d.rva named.0 in
    descriptor_in i import i.size d.rva named.0 (omega arith) named.2
    (subst (λ (xs : List Import). Contains xs import) (sym (imports_here i rva (named.2 named.0 (omega arith))))
    (entry_in i (module_of i (descriptor_at i rva)) import i.size (table_rva i rva) (addresses_rva i rva) named.1 some (omega arith) named.3 named.4))
