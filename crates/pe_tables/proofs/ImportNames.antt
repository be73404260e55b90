-- Where the names of imports are, entry by entry and descriptor by descriptor, and each by its import.
use Rattle.std.proofs.Common.{◌≡◌, ◌∙◌, ℕ, zero, suc, ◌+◌, ◌-◌, ◌%◌, ◌^◌, ◌<◌, true, false, List, [], ◌∷◌, ◌++◌, Option, Some, None, refl, sym, ap, subst, append-nil, arith, inl, inr}
use Rattle.std.specs.Prelude.{option_to_list, unwrap_or}
use Rattle.std.specs.List.{filter_map, flat_map, cons_option}
use Rattle.std.proofs.lemmas.Bool.{cases_Bool}
use Rattle.std.proofs.lemmas.Option.{same_Some}
use Rattle.pe_head.specs.declared.directory.Directory.{Directory}
use Rattle.pe_layout.specs.Image.{LaidOut}
use Rattle.pe_tables.specs.Key.{Name, Ordinal}
use Rattle.pe_tables.specs.Imports.{Import, Lookup, is_ordinal, key_of, name_of, ends_table, ends_list, lookup_at, lookups_from, lookups_of, lookup_table, descriptors_of, import_of, imports_in, imports_at, imports_of, module_of}
use Rattle.pe_tables.specs.ImportNames.{name_rva_of, name_of_lookup, names_in, import_names_in, import_names_of, IsNamedAt, AreNamedAt}
use Rattle.pe_tables.specs.declared.imports.Descriptor.{Descriptor}
use Rattle.pe_tables.proofs.Entries.{filter_map-cons}
use Rattle.pe_tables.proofs.Lookups.{lookups-end, lookups-more, lookups-enough, lookups-step}

-- the RVAs of names do not depend on where the slots are
slotless : (i : LaidOut) (n rva s t : ℕ) → filter_map (name_of_lookup i) (lookups_from n i rva s) ≡ filter_map (name_of_lookup i) (lookups_from n i rva t)
slotless i zero rva s t = refl
slotless i (suc n) rva s t =
    let names = filter_map (name_of_lookup i) in
    elim (cases_Bool (ends_table i (lookup_at i rva s))) [
      | inl ends ↦ ap names (lookups-end (suc n) i rva s ends) ∙ sym (ap names (lookups-end (suc n) i rva t ends))
      | inr goes ↦
          (ap names (lookups-more n i rva s goes)
          ∙ ap (cons_option (name_of_lookup i (lookup_at i rva s))) (slotless i n (rva + i.slot_width) (s + i.slot_width) (t + i.slot_width))
          ∙ sym (ap names (lookups-more n i rva t goes)))
    ]

-- the RVAs of the names of the entries from an RVA on
abbrev pub names_from : LaidOut → ℕ → List ℕ
names_from i rva = filter_map (name_of_lookup i) (lookups_from (i.size - rva) i rva 0)

-- that of the last entry
pub names-end : (i : LaidOut) (rva : ℕ) → ends_table i (lookup_at i rva 0) ≡ true → names_from i rva ≡ option_to_list (name_of_lookup i (lookup_at i rva 0))
names-end i rva ends =
    ap (filter_map (name_of_lookup i)) (lookups-end (i.size - rva) i rva 0 ends)
    ∙ filter_map-cons (name_of_lookup i) (lookup_at i rva 0) []
    ∙ append-nil (option_to_list (name_of_lookup i (lookup_at i rva 0)))

module _ (i : LaidOut) (some : 0 < i.slot_width) where
  -- those of all entries of a descriptor
  pub names-all : (d : Descriptor) → names_from i (lookup_table d) ≡ filter_map (name_of_lookup i) (lookups_of i d)
  names-all d =
      slotless i (i.size - lookup_table d) (lookup_table d) 0 d.addresses
      ∙ ap (filter_map (name_of_lookup i)) (lookups-enough i some (i.size - lookup_table d) i.size (lookup_table d) d.addresses (omega arith) (omega arith))

  -- that of an entry, and those of the entries after it
  pub names-step : (rva : ℕ) → ends_table i (lookup_at i rva 0) ≡ false → names_from i rva ≡ option_to_list (name_of_lookup i (lookup_at i rva 0)) ++ names_from i (rva + i.slot_width)
  names-step rva goes =
      let here : Lookup = lookup_at i rva 0 in
      let next : ℕ = rva + i.slot_width in
      ap (filter_map (name_of_lookup i)) (lookups-step i some rva 0 goes)
      ∙ filter_map-cons (name_of_lookup i) here (lookups_from (i.size - next) i next (0 + i.slot_width))
      ∙ ap (λ (rest : List ℕ). option_to_list (name_of_lookup i here) ++ rest) (slotless i (i.size - next) next (0 + i.slot_width) 0)

-- ---- each by its import
module _ (i : LaidOut) where
  -- each import has the string at its RVA
  abbrev Named : List ℕ → List Import → Type 0
  Named [] [] = Unit {0}
  Named [] (x ∷ xs) = ⊥
  Named (r ∷ rs) [] = ⊥
  Named (r ∷ rs) (x ∷ xs) = IsNamedAt i r x × Named rs xs

  named-append : (rs ss : List ℕ) (xs ys : List Import) → Named rs xs → Named ss ys → Named (rs ++ ss) (xs ++ ys)
  named-append [] ss [] ys first second = second
  named-append [] ss (x ∷ xs) ys first second = absurd first
  named-append (r ∷ rs) ss [] ys first second = absurd first
  named-append (r ∷ rs) ss (x ∷ xs) ys first second = (first.0, named-append rs ss xs ys first.1 second)

  named-value : (value : ℕ) (text : List ℕ) → key_of i value ≡ Name text → text ≡ unwrap_or (i.text (name_rva_of i value)) []
  named-value value text is = elim (cases_Bool (is_ordinal i value)) [
    | inl ordinal ↦ (let e : Ordinal (value % 2 ^ 16) ≡ Name text = rw ordinal at is in absurd cc)
    | inr by_name ↦
        (let e : Name (unwrap_or (name_of i value) []) ≡ Name text = rw by_name at is in
        let same : unwrap_or (name_of i value) [] ≡ text = cc in
        rw by_name (sym same))
  ]

  named-lookups : (name : List ℕ) (ls : List Lookup) → Named (filter_map (name_of_lookup i) ls) (filter_map (import_of i name) ls)
  named-lookups name [] = tt
  named-lookups name (l ∷ ls) = elim (cases_Bool (ends_table i l)) [
    | inl ends ↦ rw ends (named-lookups name ls)
    | inr goes ↦ rw goes (named-value l.value, named-lookups name ls)
  ]

  named-descriptor : (d : Descriptor) → Named (names_in i d) (imports_in i d)
  named-descriptor d = elim (cases_Bool (ends_list i d)) [
    | inl ends ↦ rw ends tt
    | inr goes ↦ rw goes (named-lookups (module_of i d) (lookups_of i d))
  ]

  named-list : (ds : List Descriptor) → Named (flat_map (names_in i) ds) (flat_map (imports_in i) ds)
  named-list [] = tt
  named-list (d ∷ ds) = named-append (names_in i d) (flat_map (names_in i) ds) (imports_in i d) (flat_map (imports_in i) ds) (named-descriptor d) (named-list ds)

  named-at : (o : Option Directory) → Named (import_names_in i o) (imports_at i o)
  named-at None = tt
  named-at (Some d) = named-list (descriptors_of i d.rva)

  each-named : (rs : List ℕ) (xs : List Import) → Named rs xs → AreNamedAt i rs xs
  each-named [] [] all k rva x there here = absurd cc
  each-named [] (y ∷ xs) all k rva x there here = absurd all
  each-named (r ∷ rs) [] all k rva x there here = absurd all
  each-named (r ∷ rs) (y ∷ xs) all zero rva x there here =
      subst (λ (n : ℕ). IsNamedAt i n x) (same_Some r rva there) (subst (IsNamedAt i r) (same_Some y x here) all.0)
  each-named (r ∷ rs) (y ∷ xs) all (suc k) rva x there here = each-named rs xs all.1 k rva x there here

  pub imports-named : AreNamedAt i (import_names_of i) (imports_of i)
  imports-named = each-named (import_names_of i) (imports_of i) (named-at (i.directory 1))
