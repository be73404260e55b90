-- Imports without a fault: their slots are in the image, share no byte, and are not too many.
use Rattle.std.proofs.Common.{◌≡◌, ℕ, ◌+◌, ◌<◌, ◌≤◌, true, false, not, List, [], ◌∷◌, ◌++◌, length, get_or, Option, Some, None, refl, sym, ap, subst, ◌∙◌, length-append, append_assoc, append-nil, arith, inl, inr}
use Rattle.std.specs.Prelude.{◌==◌, map, All, AllPairs, option_to_list}
use Rattle.std.specs.List.{filter_map, flat_map}
use Rattle.std.proofs.lemmas.Bool.{cases_Bool, or_parts}
use Rattle.std.proofs.lemmas.Bool.Decides.{nat_tests}
use Rattle.std.proofs.lemmas.List.Elements.{All-nil, All-append, All-cons}
use Rattle.pe_view.specs.Faults.{Test, first_standing}
use Rattle.pe_view.specs.FirstStanding.{none-append, none_stands}
use Rattle.pe_head.specs.declared.directory.Directory.{Directory}
use Rattle.pe_layout.specs.Image.{LaidOut, is_inside, fault_at}
use Rattle.pe_ranges.specs.Ranges.{meets, meets_any}
use Rattle.pe_tables.specs.Imports.{Import, Lookup, ends_table, ends_list, is_null, key_of, import_of, module_of, lookups_of, imports_in, imports_at}
use Rattle.pe_tables.specs.ImportFaults.{range_of, key_tests, slot_tests, lookup_tests, lookups_tests, module_tests, descriptor_tests, descriptors_tests, import_tests_at}
use Rattle.pe_tables.specs.ImportPlaces.{IsApart}
use Rattle.pe_tables.specs.declared.imports.Descriptor.{Descriptor}
use Rattle.pe_tables.proofs.Beside.{none_at, apart_range, list_any-map}
use Rattle.pe_tables.proofs.Entries.{filter_map-cons}
use Rattle.pe_tables.proofs.Lookups.{affirmed, leb-≤}
use Rattle.pe_ranges.proofs.Pairs.{AllPairs-nil, AllPairs-snoc}

unequal : (a b : ℕ) → (a == b) ≡ false → a ≤ b → a < b
unequal a b e le = grind (arith, nat_tests)

-- imports without a fault of their slots
pub record IsFine (i : LaidOut) (imports : List Import) : Type 0 where
  pub inside : All (λ (import : Import). import.slot + i.slot_width ≤ i.size) imports
  pub apart : AllPairs (IsApart i.slot_width) imports
  pub few : length imports ≤ 1048576

module _ (i : LaidOut) where
  fine-nil : IsFine i []
  fine-nil = record { inside = All-nil _; apart = AllPairs-nil (IsApart i.slot_width); few = omega arith }

  apart_from : (before : List Import) (import : Import) → meets_any import.slot i.slot_width (map (range_of i.slot_width) before) ≡ false → All (λ (a : Import). IsApart i.slot_width a import) before
  apart_from before import none k d lt =
      let e = sym (list_any-map (λ range. meets import.slot i.slot_width range.0 range.1) (range_of i.slot_width) before) ∙ none in
      apart_range import.slot i.slot_width (get_or before k d).slot i.slot_width (none_at (λ (a : Import). meets import.slot i.slot_width a.slot i.slot_width) before k d e lt)

  fine-snoc : (before : List Import) (import : Import) → IsFine i before → is_inside i import.slot i.slot_width ≡ true
      → meets_any import.slot i.slot_width (map (range_of i.slot_width) before) ≡ false → (length before == 1048576) ≡ false → IsFine i (before ++ import ∷ [])
  fine-snoc before import fine inside none room =
      let few = unequal _ _ room fine.few in
      let here : import.slot + i.slot_width ≤ i.size = leb-≤ _ _ inside in
      record {
        inside = All-append (λ (a : Import). a.slot + i.slot_width ≤ i.size) before (import ∷ []) fine.inside (All-cons (λ (a : Import). a.slot + i.slot_width ≤ i.size) import [] here (All-nil _));
        apart = AllPairs-snoc (IsApart i.slot_width) before import fine.apart (apart_from before import none);
        few = let e = length-append before (import ∷ []) in omega (arith, e, few);
      }

  module _ (module_name : List ℕ) where
    abbrev made : Lookup → Import
    made l = record { module_name = module_name; key = key_of i l.value; slot = l.slot }

    fine_by : (first : Test) (before : List Import) (l : Lookup) → IsFine i before → first_standing (first ∷ (key_tests i l.rva l.value ++ slot_tests i before l.rva l.slot)) ≡ None → IsFine i (before ++ made l ∷ [])
    fine_by first before l fine none =
        let tests : List Test = first ∷ (key_tests i l.rva l.value ++ slot_tests i before l.rva l.slot) in
        fine-snoc before (made l) fine
        (affirmed _ (none_stands tests 3 (record { stands = not (is_inside i l.slot i.slot_width); fault = fault_at 29 i l.rva }) none refl))
        (none_stands tests 4 (record { stands = meets_any l.slot i.slot_width (map (range_of i.slot_width) before); fault = fault_at 30 i l.rva }) none refl)
        (none_stands tests 5 (record { stands = length before == 1048576; fault = fault_at 31 i l.rva }) none refl)

    lookup-fine : (before : List Import) (l : Lookup) → IsFine i before → first_standing (lookup_tests i before l) ≡ None → IsFine i (before ++ option_to_list (import_of i module_name l))
    lookup-fine before l fine none = elim (cases_Bool (ends_table i l)) [
      | inl ends ↦
          (let e : import_of i module_name l ≡ None = rw ends refl in
          subst (IsFine i) (sym (append-nil before) ∙ ap (λ (o : Option Import). before ++ option_to_list o) (sym e)) fine)
      | inr goes ↦
          (let e : import_of i module_name l ≡ Some (made l) = rw goes refl in
          let some : (l.value == 0) ≡ false = (or_parts _ _ goes).1 in
          subst (IsFine i) (ap (λ (o : Option Import). before ++ option_to_list o) (sym e))
          (fine_by (record { stands = not (is_inside i l.rva i.slot_width); fault = fault_at 26 i l.rva }) before l fine (rw some at none)))
    ]

    lookups-fine : (ls : List Lookup) (before : List Import) → IsFine i before → first_standing (lookups_tests i module_name before ls) ≡ None → IsFine i (before ++ filter_map (import_of i module_name) ls)
    unfolding lookups_tests
    lookups-fine [] before fine none = subst (IsFine i) (sym (append-nil before)) fine
    lookups-fine (l ∷ ls) before fine none =
        let more : List Import = before ++ option_to_list (import_of i module_name l) in
        let parts = none-append (lookup_tests i before l) (lookups_tests i module_name more ls) none in
        subst (IsFine i)
        (append_assoc before (option_to_list (import_of i module_name l)) (filter_map (import_of i module_name) ls)
        ∙ ap (λ (xs : List Import). before ++ xs) (sym (filter_map-cons (import_of i module_name) l ls)))
        (lookups-fine ls more (lookup-fine before l fine parts.0) parts.1)

  behind_by : (first : Test) (d : Descriptor) (before : List Import) → first_standing (first ∷ (module_tests i d ++ lookups_tests i (module_of i d) before (lookups_of i d))) ≡ None → first_standing (lookups_tests i (module_of i d) before (lookups_of i d)) ≡ None
  behind_by first d before none = (none-append (first ∷ module_tests i d) (lookups_tests i (module_of i d) before (lookups_of i d)) none).1

  descriptor-fine : (before : List Import) (d : Descriptor) → IsFine i before → first_standing (descriptor_tests i before d) ≡ None → IsFine i (before ++ imports_in i d)
  descriptor-fine before d fine none = elim (cases_Bool (ends_list i d)) [
    | inl ends ↦
        (let e : imports_in i d ≡ [] = rw ends refl in
        subst (IsFine i) (sym (append-nil before) ∙ ap (λ (xs : List Import). before ++ xs) (sym e)) fine)
    | inr goes ↦
        (let e : imports_in i d ≡ filter_map (import_of i (module_of i d)) (lookups_of i d) = rw goes refl in
        let some : is_null d ≡ false = (or_parts _ _ goes).1 in
        subst (IsFine i) (ap (λ (xs : List Import). before ++ xs) (sym e))
        (lookups-fine (module_of i d) (lookups_of i d) before fine
        (behind_by (record { stands = not (is_inside i d.rva 20); fault = fault_at 24 i d.rva }) d before (rw some at none))))
  ]

  descriptors-fine : (ds : List Descriptor) (before : List Import) → IsFine i before → first_standing (descriptors_tests i before ds) ≡ None → IsFine i (before ++ flat_map (imports_in i) ds)
  unfolding descriptors_tests
  descriptors-fine [] before fine none = subst (IsFine i) (sym (append-nil before)) fine
  descriptors-fine (d ∷ ds) before fine none =
      let parts = none-append (descriptor_tests i before d) (descriptors_tests i (before ++ imports_in i d) ds) none in
      subst (IsFine i) (append_assoc before (imports_in i d) (flat_map (imports_in i) ds))
      (descriptors-fine ds (before ++ imports_in i d) (descriptor-fine before d fine parts.0) parts.1)

  pub imports-fine : (o : Option Directory) → first_standing (import_tests_at i o) ≡ None → IsFine i (imports_at i o)
  imports-fine None none = fine-nil
  imports-fine (Some d) none = descriptors-fine _ [] fine-nil none
