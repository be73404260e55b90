-- In an import table without a fault each name is there.
use Rattle.std.proofs.Common.{◌≡◌, ℕ, zero, suc, ◌+◌, ◌*◌, ◌<◌, ◌≤◌, Bool, true, false, not, List, [], ◌∷◌, ◌++◌, Option, Some, None, refl, sym, ap, subst, ◌∙◌, arith}
use Rattle.std.specs.Prelude.{◌==◌, ◌&&◌, is_none, IsSome, option_to_list}
use Rattle.std.proofs.lemmas.Bool.{or_parts}
use Rattle.pe_view.specs.Faults.{Test, first_standing}
use Rattle.pe_view.specs.FirstStanding.{none-append, none_stands}
use Rattle.pe_head.specs.declared.directory.Directory.{Directory}
use Rattle.pe_layout.specs.Image.{LaidOut, is_inside, number_at, fault_at}
use Rattle.pe_tables.specs.Imports.{Import, Lookup, descriptor_at, descriptors_from, lookup_at, lookups_from, lookups_of, ends_table, is_null, is_ordinal, name_of, import_of, module_of, imports_in}
use Rattle.pe_tables.specs.ImportFaults.{key_tests, slot_tests, lookup_tests, lookups_tests, module_tests, descriptor_tests, descriptors_tests, import_tests_at}
use Rattle.pe_tables.specs.ImportPlaces.{descriptor_rva, addresses_rva, table_rva, HasDescriptor, HasEntry, IsInList, IsInTable, HasTexts}
use Rattle.pe_tables.specs.declared.imports.Descriptor.{Descriptor}
use Rattle.pe_tables.proofs.Lookups.{lookups-more}
use Rattle.pe_tables.proofs.Descriptors.{descriptors-more}
use Rattle.pe_tables.proofs.ImportPlaces.{list_goes, table_goes, start, step, first_of, behind}

some_text : (o : Option (List ℕ)) → is_none o ≡ false → IsSome o
some_text None e = absurd cc
some_text (Some text) e = refl

named_by : (b : Bool) (o : Option (List ℕ)) → (not b && is_none o) ≡ false → b ≡ false → IsSome o
named_by true o e is = absurd cc
named_by false o e is = some_text o e

-- the name of an entry without a fault
value_named : (i : LaidOut) (first : Test) (before : List Import) (l : Lookup) → first_standing (first ∷ (key_tests i l.rva l.value ++ slot_tests i before l.rva l.slot)) ≡ None
    → is_ordinal i l.value ≡ false → IsSome (name_of i l.value)
value_named i first before l none =
    named_by (is_ordinal i l.value) (name_of i l.value)
    (none_stands (first ∷ (key_tests i l.rva l.value ++ slot_tests i before l.rva l.slot)) 1 (record { stands = not (is_ordinal i l.value) && is_none (name_of i l.value); fault = fault_at 27 i l.rva }) none refl)

entry_named : (i : LaidOut) (before : List Import) (l : Lookup) → ends_table i l ≡ false → first_standing (lookup_tests i before l) ≡ None → is_ordinal i l.value ≡ false → IsSome (name_of i l.value)
entry_named i before l goes none =
    let some : (l.value == 0) ≡ false = (or_parts _ _ goes).1 in
    value_named i (record { stands = not (is_inside i l.rva i.slot_width); fault = fault_at 26 i l.rva }) before l (rw some at none)

module _ (i : LaidOut) (module_name : List ℕ) where
  -- the strings that an entry at an RVA names are there
  abbrev IsNamed : ℕ → Type 0
  IsNamed rva = is_ordinal i (number_at i.slot_width i rva) ≡ false → IsSome (name_of i (number_at i.slot_width i rva))

  abbrev with_entry : ℕ → ℕ → List Import → List Import
  with_entry rva slot before = before ++ option_to_list (import_of i module_name (lookup_at i rva slot))

  -- an entry and those after it
  first_named : (n rva slot : ℕ) (before : List Import) → HasEntry i rva → first_standing (lookups_tests i module_name before (lookups_from (suc n) i rva slot)) ≡ None
      → IsNamed rva × (first_standing (lookups_tests i module_name (with_entry rva slot before) (lookups_from n i (rva + i.slot_width) (slot + i.slot_width))) ≡ None)
  unfolding lookups_tests
  first_named n rva slot before has none =
      let goes = table_goes i rva slot has in
      let left : List Lookup = lookups_from n i (rva + i.slot_width) (slot + i.slot_width) in
      let parts = none-append (lookup_tests i before (lookup_at i rva slot)) (lookups_tests i module_name (with_entry rva slot before) left)
      (sym (ap (λ (ls : List Lookup). first_standing (lookups_tests i module_name before ls)) (lookups-more n i rva slot goes)) ∙ none) in
      (entry_named i before (lookup_at i rva slot) goes parts.0, parts.1)

  entries_named : (n rva slot k : ℕ) (before : List Import) → 0 < i.slot_width → i.size ≤ rva + n → IsInTable i rva k → first_standing (lookups_tests i module_name before (lookups_from n i rva slot)) ≡ None → IsNamed (rva + i.slot_width * k)
  entries_named zero rva slot k before some room all none = let has = (first_of (HasEntry i) rva i.slot_width k all).0 in absurd (omega (arith, has))
  entries_named (suc n) rva slot zero before some room all none = subst IsNamed (start rva i.slot_width) (first_named n rva slot before (first_of (HasEntry i) rva i.slot_width 0 all) none).0
  entries_named (suc n) rva slot (suc k) before some room all none =
      let later = (first_named n rva slot before (first_of (HasEntry i) rva i.slot_width (suc k) all) none).1 in
      subst IsNamed (step rva i.slot_width k)
      (entries_named n (rva + i.slot_width) (slot + i.slot_width) k (with_entry rva slot before) some (omega arith) (behind (HasEntry i) rva i.slot_width k all) later)

module _ (i : LaidOut) where
  -- the tests of a descriptor that does not end the list
  parts_by : (first : Test) (d : Descriptor) (before : List Import) → first_standing (first ∷ (module_tests i d ++ lookups_tests i (module_of i d) before (lookups_of i d))) ≡ None
      → IsSome (i.text d.name) × (first_standing (lookups_tests i (module_of i d) before (lookups_of i d)) ≡ None)
  parts_by first d before none = (
    some_text (i.text d.name)
        (none_stands (first ∷ (module_tests i d ++ lookups_tests i (module_of i d) before (lookups_of i d))) 1 (record { stands = is_none (i.text d.name); fault = fault_at 25 i (d.rva + 12) }) none refl),
    (none-append (first ∷ module_tests i d) (lookups_tests i (module_of i d) before (lookups_of i d)) none).1,
  )

  texts_there : (rva k : ℕ) (before : List Import) → 0 < i.slot_width → HasDescriptor i rva → IsInTable i (table_rva i rva) k → first_standing (descriptor_tests i before (descriptor_at i rva)) ≡ None → HasTexts i rva k
  texts_there rva k before some has all none =
      let d : Descriptor = descriptor_at i rva in
      let room : i.size ≤ table_rva i rva + i.size = omega arith in
      let named : is_null (descriptor_at i rva) ≡ false = (or_parts _ _ (list_goes i rva has)).1 in
      let parts = parts_by (record { stands = not (is_inside i rva 20); fault = fault_at 24 i rva }) (descriptor_at i rva) before (rw named at none) in
      (parts.0, entries_named i (module_of i d) i.size (table_rva i rva) (addresses_rva i rva) k before some room all parts.1)

  -- the descriptor at an RVA has no fault, after some imports
  abbrev Passes : ℕ → Type 0
  Passes rva = (found : List Import) × (first_standing (descriptor_tests i found (descriptor_at i rva)) ≡ None)

  -- a descriptor and those after it
  first_passes : (n rva : ℕ) (before : List Import) → HasDescriptor i rva → first_standing (descriptors_tests i before (descriptors_from (suc n) i rva)) ≡ None
      → Passes rva × (first_standing (descriptors_tests i (before ++ imports_in i (descriptor_at i rva)) (descriptors_from n i (rva + 20))) ≡ None)
  unfolding descriptors_tests
  first_passes n rva before has none =
      let left : List Descriptor = descriptors_from n i (rva + 20) in
      let parts = none-append (descriptor_tests i before (descriptor_at i rva)) (descriptors_tests i (before ++ imports_in i (descriptor_at i rva)) left)
      (sym (ap (λ (ds : List Descriptor). first_standing (descriptors_tests i before ds)) (descriptors-more n i rva (list_goes i rva has))) ∙ none) in
      ((before, parts.0), parts.1)

  descriptors_pass : (n rva j : ℕ) (before : List Import) → i.size ≤ rva + n → IsInList i rva j → first_standing (descriptors_tests i before (descriptors_from n i rva)) ≡ None → Passes (descriptor_rva rva j)
  descriptors_pass zero rva j before room all none = let has = (first_of (HasDescriptor i) rva 20 j all).0 in absurd (omega (arith, has))
  descriptors_pass (suc n) rva zero before room all none = subst Passes (start rva 20) (first_passes n rva before (first_of (HasDescriptor i) rva 20 0 all) none).0
  descriptors_pass (suc n) rva (suc j) before room all none =
      let later = (first_passes n rva before (first_of (HasDescriptor i) rva 20 (suc j) all) none).1 in
      subst Passes (step rva 20 j) (descriptors_pass n (rva + 20) j (before ++ imports_in i (descriptor_at i rva)) (omega arith) (behind (HasDescriptor i) rva 20 j all) later)

pub named : (i : LaidOut) (d : Directory) (j k : ℕ) → 0 < i.slot_width → first_standing (import_tests_at i (Some d)) ≡ None → IsInList i d.rva j → IsInTable i (table_rva i (descriptor_rva d.rva j)) k → HasTexts i (descriptor_rva d.rva j) k
named i d j k some none listed all =
    let w = descriptors_pass i i.size d.rva j [] (omega arith) listed none in
    texts_there i (descriptor_rva d.rva j) k w.0 some (listed j (omega arith)) all w.1
