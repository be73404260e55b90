-- An image of which some bytes are not at hand: what imports read of it.
use Rattle.std.proofs.Common.{◌≡◌, ℕ, zero, suc, ◌+◌, ◌/◌, ◌%◌, ◌^◌, ◌≤◌, Bool, true, false, List, [], ◌∷◌, ◌++◌, Option, None, Some, refl, ◌∙◌, ap, ap₂, arith, inl, inr}
use Rattle.std.specs.Prelude.{◌==◌, ◌&&◌, not, is_none, option_to_list, unwrap_or, if◌then◌else◌}
use Rattle.std.specs.List.{filter_map, flat_map, cons_option}
use Rattle.std.proofs.lemmas.Bool.{cases_Bool, or_parts}
use Rattle.pe_head.specs.declared.directory.Directory.{Directory}
use Rattle.pe_layout.specs.Image.{LaidOut, number_at, is_inside, fault_at}
use Rattle.pe_tables.specs.Key.{Ordinal, Name}
use Rattle.pe_tables.specs.Imports.{Import, descriptor_at, is_null, ends_list, descriptors_from, lookup_table, Lookup, lookup_at, ends_table, lookups_from, lookups_of, is_ordinal, import_of, module_of, imports_in, imports_at, imports_of}
use Rattle.pe_tables.specs.ImportFaults.{slot_tests, lookup_tests, lookups_tests, descriptor_tests, descriptors_tests, import_tests_at, import_tests}
use Rattle.pe_parts.specs.Filled.{filled, HasLookup, HaveLookups, HasDescriptor, HaveDescriptors, MayHaveImports}
use Rattle.pe_parts.proofs.ReadFixups.{number_at_agrees}

lookup_agrees : (i : LaidOut) (b : ℕ → ℕ) (t : ℕ → Option (List ℕ)) (w : ℕ → ℕ) (rva slot : ℕ) → HasLookup i b t rva → lookup_at (filled i b t w) rva slot ≡ lookup_at i rva slot
lookup_agrees i b t w rva slot h = ap (λ v. let l : Lookup = record { rva = rva; value = v; slot = slot } in l) (number_at_agrees i b t w rva (rva + i.slot_width) h.value i.slot_width rva (omega arith) (omega arith))

lookups_agree : (n : ℕ) (i : LaidOut) (b : ℕ → ℕ) (t : ℕ → Option (List ℕ)) (w : ℕ → ℕ) (rva slot : ℕ) → HaveLookups n i b t rva → lookups_from n (filled i b t w) rva slot ≡ lookups_from n i rva slot
lookups_agree zero i b t w rva slot h = ap (λ l. l ∷ []) (lookup_agrees i b t w rva slot h)
lookups_agree (suc n) i b t w rva slot h =
    ap (λ l. l ∷ (if ends_table i l then [] else lookups_from n (filled i b t w) (rva + i.slot_width) (slot + i.slot_width))) (lookup_agrees i b t w rva slot h.0)
    ∙ elim (cases_Bool (ends_table i (lookup_at i rva 0))) [
      | inl e ↦ rw e refl
      | inr e ↦ rw e (ap (λ ls. lookup_at i rva slot ∷ ls) (lookups_agree n i b t w (rva + i.slot_width) (slot + i.slot_width) (h.1 e)))
    ]

-- the texts of entries are at hand
abbrev HaveTexts : (i : LaidOut) → (ℕ → Option (List ℕ)) → List Lookup → Type 0
HaveTexts i t [] = Unit {0}
HaveTexts i t (l ∷ ls) = (is_ordinal i l.value ≡ false → t (l.value % 2 ^ 31 + 2) ≡ i.text (l.value % 2 ^ 31 + 2)) × HaveTexts i t ls

have_texts : (n : ℕ) (i : LaidOut) (b : ℕ → ℕ) (t : ℕ → Option (List ℕ)) (rva slot : ℕ) → HaveLookups n i b t rva → HaveTexts i t (lookups_from n i rva slot)
have_texts zero i b t rva slot h = (h.text, tt)
have_texts (suc n) i b t rva slot h = elim (cases_Bool (ends_table i (lookup_at i rva 0))) [
  | inl e ↦ rw e (h.0.text, tt)
  | inr e ↦ rw e (h.0.text, have_texts n i b t (rva + i.slot_width) (slot + i.slot_width) (h.1 e))
]

import_agrees : (i : LaidOut) (b : ℕ → ℕ) (t : ℕ → Option (List ℕ)) (w : ℕ → ℕ) (m : List ℕ) (l : Lookup) → (is_ordinal i l.value ≡ false → t (l.value % 2 ^ 31 + 2) ≡ i.text (l.value % 2 ^ 31 + 2)) → import_of (filled i b t w) m l ≡ import_of i m l
import_agrees i b t w m l h = elim (cases_Bool (is_ordinal i l.value)) [
  | inl e ↦ rw e refl
  | inr e ↦ ap (λ o. if ends_table i l then None else let x : Import = record { module_name = m; key = if is_ordinal i l.value then Ordinal (l.value % 2 ^ 16) else Name (unwrap_or o []); slot = l.slot } in Some x) (h e)
]

lookup_tests_agree : (i : LaidOut) (b : ℕ → ℕ) (t : ℕ → Option (List ℕ)) (w : ℕ → ℕ) (before : List Import) (l : Lookup) → (is_ordinal i l.value ≡ false → t (l.value % 2 ^ 31 + 2) ≡ i.text (l.value % 2 ^ 31 + 2)) → lookup_tests (filled i b t w) before l ≡ lookup_tests i before l
lookup_tests_agree i b t w before l h = elim (cases_Bool (is_ordinal i l.value)) [
  | inl e ↦ rw e refl
  | inr e ↦ ap (λ o. record { stands = not (is_inside i l.rva i.slot_width); fault = fault_at 26 i l.rva }
      ∷ (if l.value == 0 then [] else (record { stands = not (is_ordinal i l.value) && is_none o; fault = fault_at 27 i l.rva }
      ∷ record { stands = not (is_ordinal i l.value) && not (l.value / 2 ^ 31 == 0); fault = fault_at 28 i l.rva } ∷ []) ++ slot_tests i before l.rva l.slot)) (h e)
]

lookups_tests_agree : (i : LaidOut) (b : ℕ → ℕ) (t : ℕ → Option (List ℕ)) (w : ℕ → ℕ) (m : List ℕ) (before : List Import) (ls : List Lookup) → HaveTexts i t ls → lookups_tests (filled i b t w) m before ls ≡ lookups_tests i m before ls
unfolding lookups_tests
lookups_tests_agree i b t w m before [] h = refl
lookups_tests_agree i b t w m before (l ∷ ls) h =
    ap₂ (λ x y. x ++ y) (lookup_tests_agree i b t w before l h.0)
    (ap (λ o. lookups_tests (filled i b t w) m (before ++ option_to_list o) ls) (import_agrees i b t w m l h.0) ∙ lookups_tests_agree i b t w m (before ++ option_to_list (import_of i m l)) ls h.1)

imports_agree_in : (i : LaidOut) (b : ℕ → ℕ) (t : ℕ → Option (List ℕ)) (w : ℕ → ℕ) (m : List ℕ) (ls : List Lookup) → HaveTexts i t ls → filter_map (import_of (filled i b t w) m) ls ≡ filter_map (import_of i m) ls
imports_agree_in i b t w m [] h = refl
imports_agree_in i b t w m (l ∷ ls) h = ap₂ cons_option (import_agrees i b t w m l h.0) (imports_agree_in i b t w m ls h.1)

descriptor_agrees : (i : LaidOut) (b : ℕ → ℕ) (t : ℕ → Option (List ℕ)) (w : ℕ → ℕ) (rva : ℕ) → HasDescriptor i b t rva → descriptor_at (filled i b t w) rva ≡ descriptor_at i rva
descriptor_agrees i b t w rva h =
    let n : (o : ℕ) → o + 4 ≤ 20 → number_at 4 (filled i b t w) (rva + o) ≡ number_at 4 i (rva + o) = λ o le. number_at_agrees i b t w rva (rva + 20) h.itself 4 (rva + o) (omega arith) (omega arith) in
    let first : number_at 4 (filled i b t w) rva ≡ number_at 4 i rva = number_at_agrees i b t w rva (rva + 20) h.itself 4 rva (omega arith) (omega arith) in
    λ j. record { rva = rva; lookup = first j; time_stamp = n 4 (omega arith) j; name = n 12 (omega arith) j; addresses = n 16 (omega arith) j }

-- what a descriptor that is not null imports, and what is asked of it
descriptor_tests_agree : (i : LaidOut) (b : ℕ → ℕ) (t : ℕ → Option (List ℕ)) (w : ℕ → ℕ) (before : List Import) (rva : ℕ) → HasDescriptor i b t rva → descriptor_tests (filled i b t w) before (descriptor_at i rva) ≡ descriptor_tests i before (descriptor_at i rva)
descriptor_tests_agree i b t w before rva h =
    let d = descriptor_at i rva in
    elim (cases_Bool (is_null d)) [
      | inl e ↦ rw e refl
      | inr e ↦
          let ls = lookups_agree i.size i b t w (lookup_table d) d.addresses (h.lookups e) in
          let all : lookups_tests (filled i b t w) (unwrap_or (t d.name) []) before (lookups_of (filled i b t w) d) ≡ lookups_tests i (unwrap_or (i.text d.name) []) before (lookups_of i d) =
          ap₂ (λ o l. lookups_tests (filled i b t w) (unwrap_or o []) before l) (h.text e) ls
          ∙ lookups_tests_agree i b t w (module_of i d) before (lookups_of i d) (have_texts i.size i b t (lookup_table d) d.addresses (h.lookups e)) in
          ap₂ (λ o x. record { stands = not (is_inside i d.rva 20); fault = fault_at 24 i d.rva }
          ∷ (if is_null d then [] else (record { stands = is_none o; fault = fault_at 25 i (d.rva + 12) }
          ∷ record { stands = (d.lookup == 0) && not (d.time_stamp == 0); fault = fault_at 32 i d.rva } ∷ []) ++ x)) (h.text e) all
    ]

imports_in_agree : (i : LaidOut) (b : ℕ → ℕ) (t : ℕ → Option (List ℕ)) (w : ℕ → ℕ) (rva : ℕ) → HasDescriptor i b t rva → imports_in (filled i b t w) (descriptor_at i rva) ≡ imports_in i (descriptor_at i rva)
imports_in_agree i b t w rva h =
    let d = descriptor_at i rva in
    elim (cases_Bool (ends_list i d)) [
      | inl e ↦ rw e refl
      | inr e ↦
          let some : is_null d ≡ false = (or_parts _ _ e).1 in
          let all : filter_map (import_of (filled i b t w) (unwrap_or (t d.name) [])) (lookups_of (filled i b t w) d) ≡ filter_map (import_of i (unwrap_or (i.text d.name) [])) (lookups_of i d) =
          ap₂ (λ o l. filter_map (import_of (filled i b t w) (unwrap_or o [])) l) (h.text some) (lookups_agree i.size i b t w (lookup_table d) d.addresses (h.lookups some))
          ∙ imports_agree_in i b t w (module_of i d) (lookups_of i d) (have_texts i.size i b t (lookup_table d) d.addresses (h.lookups some)) in
          rw e all
    ]

one_tests : (i : LaidOut) (b : ℕ → ℕ) (t : ℕ → Option (List ℕ)) (w : ℕ → ℕ) (before : List Import) (rva : ℕ) → HasDescriptor i b t rva → descriptor_tests (filled i b t w) before (descriptor_at (filled i b t w) rva) ≡ descriptor_tests i before (descriptor_at i rva)
one_tests i b t w before rva h = ap (λ d. descriptor_tests (filled i b t w) before d) (descriptor_agrees i b t w rva h) ∙ descriptor_tests_agree i b t w before rva h

one_imports : (i : LaidOut) (b : ℕ → ℕ) (t : ℕ → Option (List ℕ)) (w : ℕ → ℕ) (rva : ℕ) → HasDescriptor i b t rva → imports_in (filled i b t w) (descriptor_at (filled i b t w) rva) ≡ imports_in i (descriptor_at i rva)
one_imports i b t w rva h = ap (λ d. imports_in (filled i b t w) d) (descriptor_agrees i b t w rva h) ∙ imports_in_agree i b t w rva h

rest_tests : (n : ℕ) (i : LaidOut) (b : ℕ → ℕ) (t : ℕ → Option (List ℕ)) (w : ℕ → ℕ) (before : List Import) (rva : ℕ) (ends : Bool)
    → (ends ≡ false → descriptors_tests (filled i b t w) before (descriptors_from n (filled i b t w) rva) ≡ descriptors_tests i before (descriptors_from n i rva))
    → descriptors_tests (filled i b t w) before (if ends then [] else descriptors_from n (filled i b t w) rva) ≡ descriptors_tests i before (if ends then [] else descriptors_from n i rva)
unfolding descriptors_tests
rest_tests n i b t w before rva true same = refl
rest_tests n i b t w before rva false same = same refl

descriptors_tests_agree : (n : ℕ) (i : LaidOut) (b : ℕ → ℕ) (t : ℕ → Option (List ℕ)) (w : ℕ → ℕ) (before : List Import) (rva : ℕ) → HaveDescriptors n i b t rva → descriptors_tests (filled i b t w) before (descriptors_from n (filled i b t w) rva) ≡ descriptors_tests i before (descriptors_from n i rva)
unfolding descriptors_tests
descriptors_tests_agree zero i b t w before rva h = ap (λ x. x ++ []) (one_tests i b t w before rva h)
descriptors_tests_agree (suc n) i b t w before rva h =
    ap₂ (λ x y. x ++ y) (one_tests i b t w before rva h.0)
    (ap₂ (λ is d. descriptors_tests (filled i b t w) (before ++ is) (if ends_list i d then [] else descriptors_from n (filled i b t w) (rva + 20))) (one_imports i b t w rva h.0) (descriptor_agrees i b t w rva h.0)
    ∙ rest_tests n i b t w (before ++ imports_in i (descriptor_at i rva)) (rva + 20) (ends_list i (descriptor_at i rva))
    (λ e. descriptors_tests_agree n i b t w (before ++ imports_in i (descriptor_at i rva)) (rva + 20) (h.1 e)))

descriptors_imports_agree : (n : ℕ) (i : LaidOut) (b : ℕ → ℕ) (t : ℕ → Option (List ℕ)) (w : ℕ → ℕ) (rva : ℕ) → HaveDescriptors n i b t rva → flat_map (imports_in (filled i b t w)) (descriptors_from n (filled i b t w) rva) ≡ flat_map (imports_in i) (descriptors_from n i rva)
descriptors_imports_agree zero i b t w rva h = ap (λ x. x ++ []) (one_imports i b t w rva h)
descriptors_imports_agree (suc n) i b t w rva h =
    ap₂ (λ x y. x ++ y) (one_imports i b t w rva h.0)
    (ap (λ d. flat_map (imports_in (filled i b t w)) (if ends_list i d then [] else descriptors_from n (filled i b t w) (rva + 20))) (descriptor_agrees i b t w rva h.0)
    ∙ elim (cases_Bool (ends_list i (descriptor_at i rva))) [
      | inl e ↦ rw e refl
      | inr e ↦ rw e (descriptors_imports_agree n i b t w (rva + 20) (h.1 e))
    ])

tests_at_agree : (i : LaidOut) (b : ℕ → ℕ) (t : ℕ → Option (List ℕ)) (w : ℕ → ℕ) (d : Option Directory) → MayHaveImports i b t d → import_tests_at (filled i b t w) d ≡ import_tests_at i d
tests_at_agree i b t w None h = refl
tests_at_agree i b t w (Some d) h = descriptors_tests_agree i.size i b t w [] d.rva h

imports_at_agree : (i : LaidOut) (b : ℕ → ℕ) (t : ℕ → Option (List ℕ)) (w : ℕ → ℕ) (d : Option Directory) → MayHaveImports i b t d → imports_at (filled i b t w) d ≡ imports_at i d
imports_at_agree i b t w None h = refl
imports_at_agree i b t w (Some d) h = descriptors_imports_agree i.size i b t w d.rva h

pub import_tests_agree : (i : LaidOut) (b : ℕ → ℕ) (t : ℕ → Option (List ℕ)) (w : ℕ → ℕ) → MayHaveImports i b t (i.directory 1) → import_tests (filled i b t w) ≡ import_tests i
import_tests_agree i b t w h = tests_at_agree i b t w (i.directory 1) h

pub imports_agree : (i : LaidOut) (b : ℕ → ℕ) (t : ℕ → Option (List ℕ)) (w : ℕ → ℕ) → MayHaveImports i b t (i.directory 1) → imports_of (filled i b t w) ≡ imports_of i
imports_agree i b t w h = imports_at_agree i b t w (i.directory 1) h
