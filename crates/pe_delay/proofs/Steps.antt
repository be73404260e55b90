-- The imports of a table, entry by entry.
use Rattle.std.proofs.Common.{◌≡◌, ◌∙◌, ℕ, ◌+◌, ◌<◌, ◌≤◌, true, false, List, [], ◌∷◌, not, ap, sym}
use Rattle.std.specs.Prelude.{map}
use Rattle.std.proofs.lemmas.Bool.{and_parts, and_right, and_from, leb-true, not-true, not-false, not_from_false, not_from_true, or_parts}
use Rattle.pe_layout.specs.Image.{LaidOut, is_inside}
use Rattle.pe_tables.specs.Imports.{Import, Lookup, ends_table}
use Rattle.pe_tables.specs.Key.{Key}
use Rattle.pe_delay.specs.Entries.{entry_at, import_by, imports_by, is_import, is_placed, key_in, lacks_name}
use Rattle.pe_delay.specs.declared.tables.Tables.{Tables}
use Rattle.pe_delay.proofs.Walks.{none_here, one_more}

-- an entry that does not end its table is in the image, and so is the slot of one that is placed
pub goes_inside : (i : LaidOut) (l : Lookup) → ends_table i l ≡ false → l.rva + i.slot_width ≤ i.size
goes_inside i l goes = leb-true _ _ (not-false (is_inside i l.rva i.slot_width) (or_parts _ _ goes).0)

module _ (i : LaidOut) (t : Tables) (l : Lookup) (placed : is_placed i t l ≡ true) where
  pub placed_goes : ends_table i l ≡ false
  placed_goes = not-true (ends_table i l) (and_parts _ _ placed).0

  pub placed_slot : l.slot + i.slot_width ≤ i.size
  placed_slot = leb-true _ _ (and_parts _ _ (and_parts _ _ placed).1).0

  pub placed_inside : l.rva + i.slot_width ≤ i.size
  placed_inside = goes_inside i l placed_goes

module _ (i : LaidOut) (t : Tables) (module_name : List ℕ) (most k : ℕ) where
  abbrev here : Lookup
  here = entry_at i t k

  none : k < most → is_import i t here ≡ false → imports_by i t module_name most k ≡ []
  none lt not_it = ap (map (import_by i t module_name)) (none_here (is_import i t) (entry_at i t) most k lt not_it)

  -- the entry lacks its name
  pub imports_unnamed : k < most → lacks_name i t here.value ≡ true → imports_by i t module_name most k ≡ []
  imports_unnamed lt lacks = none lt (and_right (is_placed i t here) (not (lacks_name i t here.value)) (not_from_true (lacks_name i t here.value) lacks))

  -- it imports
  pub imports_more : k < most → is_placed i t here ≡ true → lacks_name i t here.value ≡ false
      → imports_by i t module_name most k ≡ import_by i t module_name here ∷ imports_by i t module_name most (k + 1)
  imports_more lt placed named =
      ap (map (import_by i t module_name))
      (one_more (is_import i t) (entry_at i t) most k lt
      (and_from (is_placed i t here) (not (lacks_name i t here.value)) placed (not_from_false (lacks_name i t here.value) named)))

  -- what was read of it is what it imports
  pub imports_next : (key : Key) (value slot : ℕ) → k < most → is_placed i t here ≡ true → value ≡ here.value → lacks_name i t value ≡ false → key ≡ key_in i t value → slot ≡ here.slot
      → imports_by i t module_name most k ≡ record { module_name = module_name; key = key; slot = slot } ∷ imports_by i t module_name most (k + 1)
  imports_next key value slot lt placed same named is at =
      let rest : List Import = imports_by i t module_name most (k + 1) in
      imports_more lt placed (ap (lacks_name i t) (sym same) ∙ named)
      ∙ ap (λ (n : ℕ). import_by i t module_name (record here { value = n }) ∷ rest) (sym same)
      ∙ ap (λ (x : Key). let one : Import = record { module_name = module_name; key = x; slot = here.slot } in one ∷ rest) (sym is)
      ∙ ap (λ (n : ℕ). let one : Import = record { module_name = module_name; key = key; slot = n } in one ∷ rest) (sym at)
