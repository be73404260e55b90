-- The imports of a table by descriptor and by entry.
use Rattle.std.proofs.Common.{◌≡◌, ℕ, zero, suc, ◌+◌, ◌*◌, ◌<◌, ◌≤◌, true, List, [], ◌∷◌, ◌++◌, Some, None, refl, sym, ap, subst, ◌∙◌, append-nil, arith, inl, inr}
use Rattle.std.specs.Prelude.{map, option_to_list}
use Rattle.std.specs.List.{filter_map, flat_map, range_with_len}
use Rattle.std.proofs.lemmas.Bool.{cases_Bool}
use Rattle.std.proofs.Math.Nat.{mul-suc}
use Rattle.pe_head.specs.declared.directory.Directory.{Directory}
use Rattle.pe_layout.specs.Image.{LaidOut, number_at}
use Rattle.pe_tables.specs.Imports.{Import, Lookup, descriptor_at, descriptors_from, ends_list, lookup_at, lookups_from, ends_table, key_of, import_of, module_of, imports_in, imports_at}
use Rattle.pe_tables.specs.ImportPlaces.{descriptor_rva, addresses_rva, table_rva, HasDescriptor, HasEntry, HasDescriptors, HasEntries, import_at, imports_in_order}
use Rattle.pe_tables.specs.declared.imports.Descriptor.{Descriptor}
use Rattle.pe_tables.proofs.Entries.{filter_map-cons}
use Rattle.pe_tables.proofs.ImportPlaces.{has_entry, has_descriptor, table_goes, list_goes, imports_here}
use Rattle.pe_tables.proofs.Lookups.{lookups-end, lookups-more}
use Rattle.pe_tables.proofs.Descriptors.{descriptors-end, descriptors-more}

next_step : (from width k : ℕ) → from + width * k + width ≡ from + width * (k + 1)
next_step from width k = let e = mul-suc width k in let s : k + 1 ≡ suc k = omega arith in rw s (omega (arith, e))

-- a table that has no entry at an RVA ends there
ends_entry : (i : LaidOut) (rva slot : ℕ) → (HasEntry i rva → ⊥) → ends_table i (lookup_at i rva slot) ≡ true
ends_entry i rva slot none = elim (cases_Bool (ends_table i (lookup_at i rva slot))) [
  | inl ends ↦ ends
  | inr goes ↦ absurd (none (has_entry i rva slot goes))
]

ends_descriptor : (i : LaidOut) (rva : ℕ) → (HasDescriptor i rva → ⊥) → ends_list i (descriptor_at i rva) ≡ true
ends_descriptor i rva none = elim (cases_Bool (ends_list i (descriptor_at i rva))) [
  | inl ends ↦ ends
  | inr goes ↦ absurd (none (has_descriptor i rva goes))
]

module _ (i : LaidOut) (some : 0 < i.slot_width) (name : List ℕ) (table slots : ℕ) where
  -- what entry k imports
  abbrev of_entry : ℕ → Import
  of_entry k = record { module_name = name; key = key_of i (number_at i.slot_width i (table + i.slot_width * k)); slot = slots + i.slot_width * k }

  abbrev rva_of : ℕ → ℕ
  rva_of k = table + i.slot_width * k

  abbrev slot_of : ℕ → ℕ
  slot_of k = slots + i.slot_width * k

  imported : (k : ℕ) → HasEntry i (rva_of k) → import_of i name (lookup_at i (rva_of k) (slot_of k)) ≡ Some (of_entry k)
  imported k has = rw (table_goes i (rva_of k) (slot_of k) has) refl

  last_entry : (n k : ℕ) → (HasEntry i (rva_of k) → ⊥) → filter_map (import_of i name) (lookups_from n i (rva_of k) (slot_of k)) ≡ []
  last_entry n k none =
      let ends = ends_entry i (rva_of k) (slot_of k) none in
      let nothing : import_of i name (lookup_at i (rva_of k) (slot_of k)) ≡ None = rw ends refl in
      ap (filter_map (import_of i name)) (lookups-end n i (rva_of k) (slot_of k) ends)
      ∙ filter_map-cons (import_of i name) (lookup_at i (rva_of k) (slot_of k)) []
      ∙ ap (λ o. option_to_list o ++ []) nothing

  entries_in_order : (m n k : ℕ) → i.size ≤ rva_of k + n → ((j : ℕ) → k ≤ j → j < k + m → HasEntry i (rva_of j)) → (HasEntry i (rva_of (k + m)) → ⊥)
      → filter_map (import_of i name) (lookups_from n i (rva_of k) (slot_of k)) ≡ map of_entry (range_with_len k m)
  entries_in_order zero n k room all last = last_entry n k (λ has. last (let e : k ≡ k + zero = omega arith in subst (λ (j : ℕ). HasEntry i (rva_of j)) e has))
  entries_in_order (suc m) zero k room all last = let inside = (all k (omega arith) (omega arith)).0 in absurd (omega (arith, inside))
  entries_in_order (suc m) (suc n) k room all last =
      let here = all k (omega arith) (omega arith) in
      let rva : rva_of k + i.slot_width ≡ rva_of (k + 1) = next_step table i.slot_width k in
      let slot : slot_of k + i.slot_width ≡ slot_of (k + 1) = next_step slots i.slot_width k in
      let left : List Lookup = lookups_from n i (rva_of k + i.slot_width) (slot_of k + i.slot_width) in
      let last_is : k + suc m ≡ k + 1 + m = omega arith in
      ap (filter_map (import_of i name)) (lookups-more n i (rva_of k) (slot_of k) (table_goes i (rva_of k) (slot_of k) here))
      ∙ filter_map-cons (import_of i name) (lookup_at i (rva_of k) (slot_of k)) left
      ∙ ap (λ o. option_to_list o ++ filter_map (import_of i name) left) (imported k here)
      ∙ ap (λ (r : ℕ). of_entry k ∷ filter_map (import_of i name) (lookups_from n i r (slot_of k + i.slot_width))) rva
      ∙ ap (λ (s : ℕ). of_entry k ∷ filter_map (import_of i name) (lookups_from n i (rva_of (k + 1)) s)) slot
      ∙ ap (λ (xs : List Import). of_entry k ∷ xs)
      (entries_in_order m n (k + 1) (omega arith) (λ j low high. all j (omega arith) (omega arith)) (λ has. last (subst (λ (j : ℕ). HasEntry i (rva_of j)) (sym last_is) has)))

-- the imports of a descriptor
descriptor_in_order : (i : LaidOut) (rva count : ℕ) → 0 < i.slot_width → HasDescriptor i rva → HasEntries i (table_rva i rva) count
    → imports_in i (descriptor_at i rva) ≡ map (import_at i rva) (range_with_len 0 count)
descriptor_in_order i rva count some has entries =
    let name = module_of i (descriptor_at i rva) in
    let table : table_rva i rva ≡ table_rva i rva + i.slot_width * 0 = omega arith in
    let slots : addresses_rva i rva ≡ addresses_rva i rva + i.slot_width * 0 = omega arith in
    let room : i.size ≤ table_rva i rva + i.slot_width * 0 + i.size = omega arith in
    imports_here i rva has
    ∙ ap (λ (r : ℕ). filter_map (import_of i name) (lookups_from i.size i r (addresses_rva i rva))) table
    ∙ ap (λ (s : ℕ). filter_map (import_of i name) (lookups_from i.size i (table_rva i rva + i.slot_width * 0) s)) slots
    ∙ entries_in_order i some name (table_rva i rva) (addresses_rva i rva) count i.size 0 room
    (λ k low high. entries.0 k (omega arith)) (λ has. entries.1 (let e : 0 + count ≡ count = omega arith in subst (λ (k : ℕ). HasEntry i (table_rva i rva + i.slot_width * k)) e has))

module _ (i : LaidOut) (some : 0 < i.slot_width) (list : ℕ) (counts : ℕ → ℕ) where
  abbrev of_descriptor : ℕ → List Import
  of_descriptor j = map (import_at i (descriptor_rva list j)) (range_with_len 0 (counts j))

  last_descriptor : (n j : ℕ) → (HasDescriptor i (descriptor_rva list j) → ⊥) → flat_map (imports_in i) (descriptors_from n i (descriptor_rva list j)) ≡ []
  last_descriptor n j none =
      let ends = ends_descriptor i (descriptor_rva list j) none in
      let nothing : imports_in i (descriptor_at i (descriptor_rva list j)) ≡ [] = rw ends refl in
      ap (flat_map (imports_in i)) (descriptors-end n i (descriptor_rva list j) ends) ∙ append-nil (imports_in i (descriptor_at i (descriptor_rva list j))) ∙ nothing

  descriptors_in_order : (m n j : ℕ) → i.size ≤ descriptor_rva list j + n → ((k : ℕ) → j ≤ k → k < j + m → HasDescriptor i (descriptor_rva list k)) → (HasDescriptor i (descriptor_rva list (j + m)) → ⊥)
      → ((k : ℕ) → j ≤ k → k < j + m → HasEntries i (table_rva i (descriptor_rva list k)) (counts k))
      → flat_map (imports_in i) (descriptors_from n i (descriptor_rva list j)) ≡ flat_map of_descriptor (range_with_len j m)
  descriptors_in_order zero n j room all last entries = last_descriptor n j (λ has. last (let e : j ≡ j + zero = omega arith in subst (λ (k : ℕ). HasDescriptor i (descriptor_rva list k)) e has))
  descriptors_in_order (suc m) zero j room all last entries = let inside = (all j (omega arith) (omega arith)).0 in absurd (omega (arith, inside))
  descriptors_in_order (suc m) (suc n) j room all last entries =
      let here = all j (omega arith) (omega arith) in
      let next : descriptor_rva list j + 20 ≡ descriptor_rva list (j + 1) = omega arith in
      let left : List Descriptor = descriptors_from n i (descriptor_rva list j + 20) in
      let last_is : j + suc m ≡ j + 1 + m = omega arith in
      ap (flat_map (imports_in i)) (descriptors-more n i (descriptor_rva list j) (list_goes i (descriptor_rva list j) here))
      ∙ ap (λ (xs : List Import). xs ++ flat_map (imports_in i) left) (descriptor_in_order i (descriptor_rva list j) (counts j) some here (entries j (omega arith) (omega arith)))
      ∙ ap (λ (r : ℕ). of_descriptor j ++ flat_map (imports_in i) (descriptors_from n i r)) next
      ∙ ap (λ (xs : List Import). of_descriptor j ++ xs)
      (descriptors_in_order m n (j + 1) (omega arith) (λ k low high. all k (omega arith) (omega arith))
      (λ has. last (subst (λ (k : ℕ). HasDescriptor i (descriptor_rva list k)) (sym last_is) has)) (λ k low high. entries k (omega arith) (omega arith)))

pub imports-ordered : (i : LaidOut) (d : Directory) (count : ℕ) (counts : ℕ → ℕ) → 0 < i.slot_width → HasDescriptors i d.rva count
    → ((j : ℕ) → j < count → HasEntries i (table_rva i (descriptor_rva d.rva j)) (counts j)) → imports_at i (Some d) ≡ imports_in_order i d.rva count counts
imports-ordered i d count counts some descriptors entries =
    let start : d.rva ≡ descriptor_rva d.rva 0 = omega arith in
    let room : i.size ≤ descriptor_rva d.rva 0 + i.size = omega arith in
    ap (λ (r : ℕ). flat_map (imports_in i) (descriptors_from i.size i r)) start
    ∙ descriptors_in_order i some d.rva counts count i.size 0 room (λ j low high. descriptors.0 j (omega arith))
    (λ has. descriptors.1 (let e : 0 + count ≡ count = omega arith in subst (λ (j : ℕ). HasDescriptor i (descriptor_rva d.rva j)) e has)) (λ j low high. entries j (omega arith))
