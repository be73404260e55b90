-- The imports of a whole descriptor of RVAs, as those of an import descriptor with the same tables.
use Rattle.std.proofs.Common.{◌≡◌, ◌∙◌, refl, ℕ, zero, suc, ◌+◌, ◌-◌, ◌*◌, ◌<◌, ◌≤◌, Bool, true, false, cond, not, List, [], ◌∷◌, length, Option, Some, None, sym, ap, inl, inr, arith}
use Rattle.std.specs.Prelude.{◌==◌, map, take_while, is_some}
use Rattle.std.specs.List.{cons_option, filter_map, range_with_len}
use Rattle.std.specs.Option.{option_and_then, unwrap_or}
use Rattle.std.proofs.lemmas.Bool.{and_parts, cases_Bool, cases_lt, leb-true, or_right, or_parts}
use Rattle.pe_layout.specs.Image.{LaidOut, is_inside}
use Rattle.pe_records.specs.Address.{rva_of}
use Rattle.pe_tables.specs.Imports.{Import, Lookup, ends_table, import_of, key_of, lookup_at, lookups_from}
use Rattle.pe_tables.specs.Key.{Key}
use Rattle.pe_delay.specs.Descriptors.{is_null}
use Rattle.pe_delay.specs.Entries.{entry_at, entry_count, import_by, is_import, key_in, most_after}
use Rattle.pe_delay.specs.Imports.{imports_from, imports_in, is_ended_by, is_whole}
use Rattle.pe_delay.specs.Tables.{field_rva, has_rvas, module_of, tables_of}
use Rattle.pe_delay.specs.declared.descriptor.DelayDescriptor.{DelayDescriptor}
use Rattle.pe_delay.specs.declared.tables.Tables.{Tables}
use Rattle.pe_delay.proofs.Steps.{goes_inside, placed_goes}
use Rattle.pe_delay.proofs.Walks.{none_here, none_left, one_more}

-- a name of an RVA is that of an import
same_key : (i : LaidOut) (t : Tables) (value : ℕ) → t.has_rvas ≡ true → key_in i t value ≡ key_of i value
same_key i t value rvas = rw rvas refl

same_import : (i : LaidOut) (t : Tables) (m : List ℕ) (l : Lookup) → t.has_rvas ≡ true → ends_table i l ≡ false → import_of i m l ≡ Some (import_by i t m l)
same_import i t m l rvas goes =
    rw goes (ap (λ (key : Key). let import : Import = record { module_name = m; key = key; slot = l.slot } in Some import) (sym (same_key i t l.value rvas)))

-- an entry of 0 ends its table
end_ends : (i : LaidOut) (l : Lookup) → is_ended_by i l ≡ true → ends_table i l ≡ true
end_ends i l ended = or_right (not (is_inside i l.rva i.slot_width)) (l.value == 0) (and_parts (is_inside i l.rva i.slot_width) (l.value == 0) ended).1

-- what lookup entries import where the first ends the table
only_end : (i : LaidOut) (m : List ℕ) (n rva slot : ℕ) → ends_table i (lookup_at i rva slot) ≡ true → filter_map (import_of i m) (lookups_from n i rva slot) ≡ []
only_end i m zero rva slot ends = rw ends refl
only_end i m (suc n) rva slot ends = rw ends refl

module _ (i : LaidOut) (t : Tables) (m : List ℕ) (rvas : t.has_rvas ≡ true) where
  abbrev here : ℕ → Lookup
  here k = entry_at i t k

  abbrev left : ℕ → ℕ → List Lookup
  left most k = take_while (is_import i t) (map (entry_at i t) (range_with_len k (most - k)))

  -- what those from entry k on import, where it imports
  one : (n k : ℕ) → ends_table i (here k) ≡ false
      → filter_map (import_of i m) (lookups_from (suc n) i (here k).rva (here k).slot)
      ≡ import_by i t m (here k) ∷ filter_map (import_of i m) (lookups_from n i (here (k + 1)).rva (here (k + 1)).slot)
  one n k goes =
      let rva : t.names + i.slot_width * k + i.slot_width ≡ t.names + i.slot_width * (k + 1) = omega arith in
      let slot : t.addresses + i.slot_width * k + i.slot_width ≡ t.addresses + i.slot_width * (k + 1) = omega arith in
      let rest : List Lookup = lookups_from n i (t.names + i.slot_width * k + i.slot_width) (t.addresses + i.slot_width * k + i.slot_width) in
      ap (λ (b : Bool). filter_map (import_of i m) (here k ∷ cond b [] rest)) goes
      ∙ ap (λ (o : Option Import). cons_option o (filter_map (import_of i m) rest)) (same_import i t m (here k) rvas goes)
      ∙ ap (λ (a : ℕ). import_by i t m (here k) ∷ filter_map (import_of i m) (lookups_from n i a (t.addresses + i.slot_width * k + i.slot_width))) rva
      ∙ ap (λ (a : ℕ). import_by i t m (here k) ∷ filter_map (import_of i m) (lookups_from n i (here (k + 1)).rva a)) slot

  pub same_imports : 0 < i.slot_width → (fuel most n k : ℕ) → most ≤ k + fuel → i.size ≤ (here k).rva + n → is_ended_by i (here (k + length (left most k))) ≡ true
      → filter_map (import_of i m) (lookups_from n i (here k).rva (here k).slot) ≡ map (import_by i t m) (left most k)
  same_imports some zero most n k le big ended =
      let past : most ≤ k = omega (arith, le) in
      let none = none_left (is_import i t) (entry_at i t) most k past in
      let at : k + length (left most k) ≡ k = omega (arith, ap length none) in
      only_end i m n (here k).rva (here k).slot (end_ends i (here k) (ap (λ (j : ℕ). is_ended_by i (here j)) (sym at) ∙ ended))
      ∙ ap (map (import_by i t m)) (sym none)
  same_imports some (suc fuel) most n k le big ended = elim (cases_lt k most) [
    | inl under ↦ elim (cases_Bool (is_import i t (here k))) [
      | inl passes ↦
          let goes = placed_goes i t (here k) (and_parts _ _ passes).0 in
          let inside = goes_inside i (here k) goes in
          let less : n ≡ suc (n - 1) = omega (arith, inside, big, some) in
          let step = one_more (is_import i t) (entry_at i t) most k under passes in
          let len : length (left most k) ≡ 1 + length (left most (k + 1)) = ap length step ∙ omega arith in
          let at : k + length (left most k) ≡ k + 1 + length (left most (k + 1)) = omega (arith, len) in
          let next : (here (k + 1)).rva ≡ (here k).rva + i.slot_width = omega arith in
          ap (λ (j : ℕ). filter_map (import_of i m) (lookups_from j i (here k).rva (here k).slot)) less
          ∙ one (n - 1) k goes
          ∙ ap (λ (xs : List Import). import_by i t m (here k) ∷ xs)
          (same_imports some fuel most (n - 1) (k + 1) (omega (arith, le)) (omega (arith, next, big, some, inside)) (ap (λ (j : ℕ). is_ended_by i (here j)) (sym at) ∙ ended))
          ∙ ap (map (import_by i t m)) (sym step)
      | inr fails ↦
          let none = none_here (is_import i t) (entry_at i t) most k under fails in
          let at : k + length (left most k) ≡ k = omega (arith, ap length none) in
          only_end i m n (here k).rva (here k).slot (end_ends i (here k) (ap (λ (j : ℕ). is_ended_by i (here j)) (sym at) ∙ ended))
          ∙ ap (map (import_by i t m)) (sym none)
    ]
    | inr past ↦
        let none = none_left (is_import i t) (entry_at i t) most k past in
        let at : k + length (left most k) ≡ k = omega (arith, ap length none) in
        only_end i m n (here k).rva (here k).slot (end_ends i (here k) (ap (λ (j : ℕ). is_ended_by i (here j)) (sym at) ∙ ended))
        ∙ ap (map (import_by i t m)) (sym none)
  ]

-- a whole descriptor has a name table
has_names : (i : LaidOut) (read : ℕ) (d : DelayDescriptor) → 0 < i.slot_width → is_whole i read d ≡ true → (d.import_name_table == 0) ≡ false
has_names i read d some whole = elim (cases_Bool (d.import_name_table == 0)) [
  | inl none ↦
      let t = tables_of i d in
      let names : t.names ≡ i.size = ap (λ (b : Bool). unwrap_or (cond b None (cond (has_rvas d) (Some d.import_name_table) (rva_of i d.import_name_table))) i.size) none in
      let ended = (and_parts (is_some (module_of i d)) (is_ended_by i (entry_at i t (entry_count i t read))) whole).1 in
      let inside = leb-true _ _ (and_parts (is_inside i (entry_at i t (entry_count i t read)).rva i.slot_width) ((entry_at i t (entry_count i t read)).value == 0) ended).0 in
      absurd (omega (arith, names, inside, some))
  | inr there ↦ there
]

module _ (i : LaidOut) (read : ℕ) (d : DelayDescriptor) (some : 0 < i.slot_width) (rvas : has_rvas d ≡ true) (goes : is_null d ≡ false) (whole : is_whole i read d ≡ true) where
  abbrev t : Tables
  t = tables_of i d

  parts : ((d.name == 0) ≡ false) × ((d.import_address_table == 0) ≡ false)
  parts = or_parts (d.name == 0) (d.import_address_table == 0) goes

  field : (n : ℕ) → (n == 0) ≡ false → field_rva i d n ≡ Some n
  field n not_zero = ap (λ (b : Bool). cond b None (cond (has_rvas d) (Some n) (rva_of i n))) not_zero ∙ ap (λ (b : Bool). cond b (Some n) (rva_of i n)) rvas

  names : t.names ≡ d.import_name_table
  names = ap (λ (o : Option ℕ). unwrap_or o i.size) (field d.import_name_table (has_names i read d some whole))

  addresses : t.addresses ≡ d.import_address_table
  addresses = ap (λ (o : Option ℕ). unwrap_or o i.size) (field d.import_address_table parts.1)

  named : unwrap_or (module_of i d) [] ≡ unwrap_or (i.text d.name) []
  named = ap (λ (o : Option ℕ). unwrap_or (option_and_then i.text o) []) (field d.name parts.0)

  pub as_imports : imports_in i read d ≡ filter_map (import_of i (unwrap_or (i.text d.name) [])) (lookups_from i.size i d.import_name_table d.import_address_table)
  as_imports =
      let m : List ℕ = unwrap_or (module_of i d) [] in
      let most : ℕ = most_after i read in
      let ended : is_ended_by i (entry_at i t (0 + entry_count i t read)) ≡ true =
      let at : 0 + entry_count i t read ≡ entry_count i t read = omega arith in
      rw at (and_parts (is_some (module_of i d)) (is_ended_by i (entry_at i t (entry_count i t read))) whole).1 in
      let rva : t.names + i.slot_width * 0 ≡ d.import_name_table = omega (arith, names) in
      let slot : t.addresses + i.slot_width * 0 ≡ d.import_address_table = omega (arith, addresses) in
      let all = same_imports i t m rvas some most most i.size 0 (omega arith) (omega arith) ended in
      ap (λ (b : Bool). cond b (imports_from i read d) []) whole
      ∙ sym all
      ∙ ap (λ (n : ℕ). filter_map (import_of i m) (lookups_from i.size i n (t.addresses + i.slot_width * 0))) rva
      ∙ ap (λ (n : ℕ). filter_map (import_of i m) (lookups_from i.size i d.import_name_table n)) slot
      ∙ ap (λ (xs : List ℕ). filter_map (import_of i xs) (lookups_from i.size i d.import_name_table d.import_address_table)) named
