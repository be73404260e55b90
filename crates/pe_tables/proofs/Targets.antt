-- Each RVA that an image without a fault of its export table exports is in the image.
use Rattle.std.proofs.Common.{◌≡◌, ◌+◌, ◌<◌, ◌≤◌, ◌*◌, ℕ, Bool, true, false, cond, List, [], ◌∷◌, ◌++◌, length, Option, None, Some, refl, sym, subst, arith, inl, inr}
use Rattle.std.specs.Prelude.{not, ◌==◌, nat_lt}
use Rattle.std.specs.List.{find, range_with_len}
use Rattle.std.specs.Option.{option_map, option_and_then}
use Rattle.std.specs.Str.{bytes_eq}
use Rattle.std.proofs.lemmas.Bool.{cases_Bool, leb-false}
use Rattle.std.proofs.lemmas.Option.{same_Some}
use Rattle.pe_view.specs.Faults.{first_standing}
use Rattle.pe_view.specs.FirstStanding.{none-append, none_stands}
use Rattle.pe_head.specs.declared.directory.Directory.{Directory}
use Rattle.pe_layout.specs.Image.{LaidOut, is_inside}
use Rattle.pe_tables.specs.Key.{Key, Ordinal, Name, Target, Rva, Forward}
use Rattle.pe_tables.specs.Forwarder.{is_forwarder, forwarder_of, forward_to, key_of, at_last_dot}
use Rattle.pe_tables.specs.Exports.{table_at, entry, target_of, by_entry, by_name, named, name_entry, name_text, names_of, first_of_each, exports_at, exports_of, target_at}
use Rattle.pe_tables.specs.ExportFaults.{value_tests, entry_tests, name_tests, directory_tests, each_tests, export_tests, export_tests_at}
use Rattle.pe_tables.proofs.Lookups.{leb-≤}
use Rattle.pe_tables.proofs.Eaches.{Each, each_some, each_filter, each_range, flat_none}

-- an RVA is in the image
abbrev pub IsIn : ℕ → Target → Type 0
IsIn size (Rva rva) = rva < size
IsIn size (Forward name key) = Unit {0}

-- what is found in a list of such
found_by : {K : Type 0} (size : ℕ) (test : K × Target → Bool) (x : K × Target) (xs : List (K × Target)) (t : Target) (b : Bool) → IsIn size x.1 → (option_map (λ (x : K × Target). x.1) (find test xs) ≡ Some t → IsIn size t)
    → option_map (λ (x : K × Target). x.1) (cond b (Some x) (find test xs)) ≡ Some t → IsIn size t
found_by size test x xs t true here later found = subst (IsIn size) (same_Some x.1 t found) here
found_by size test x xs t false here later found = later found

found_in : {K : Type 0} (size : ℕ) (test : K × Target → Bool) (xs : List (K × Target)) (t : Target) → Each (λ (x : K × Target). IsIn size x.1) xs → option_map (λ (x : K × Target). x.1) (find test xs) ≡ Some t → IsIn size t
found_in size test [] t each found = absurd cc
found_in size test (x ∷ xs) t each found = found_by size test x xs t (test x) each.0 (found_in size test xs t each.1) found

-- a forwarder is no RVA
made_forward : (size : ℕ) (name : List ℕ) (o : Option Key) (t : Target) → option_map (Forward name) o ≡ Some t → IsIn size t
made_forward size name None t is = absurd cc
made_forward size name (Some key) t is = subst (IsIn size) (same_Some (Forward name key) t is) tt

sides_forward : (size : ℕ) (b : Bool) (name : List ℕ) (o : Option Key) (t : Target) → cond b (option_map (Forward name) o) None ≡ Some t → IsIn size t
sides_forward size true name o t is = made_forward size name o t is
sides_forward size false name o t is = absurd cc

dot_forward : (size : ℕ) (o : Option (List ℕ × List ℕ)) (t : Target) → option_and_then forward_to o ≡ Some t → IsIn size t
dot_forward size None t is = absurd cc
dot_forward size (Some sides) t is = sides_forward size (nat_lt 0 (length sides.0)) sides.0 (key_of sides.1) t is

text_forward : (size : ℕ) (o : Option (List ℕ)) (t : Target) → option_and_then forwarder_of o ≡ Some t → IsIn size t
text_forward size None t is = absurd cc
text_forward size (Some text) t is = dot_forward size (at_last_dot text) t is

inside_by : (b : Bool) → (not b) ≡ false → b ≡ true
inside_by true e = refl
inside_by false e = absurd cc

-- what a value without a fault exports
value_fits : (i : LaidOut) (d : Directory) (rva value : ℕ) (t : Target) → first_standing (value_tests i d rva value) ≡ None → target_of i d value ≡ Some t → IsIn i.size t
value_fits i d rva value t none is = elim (cases_Bool (value == 0)) [
  | inl nothing ↦ (let e = rw nothing at is in absurd cc)
  | inr some ↦ elim (cases_Bool (is_forwarder d value)) [
    | inl forward ↦ (let e = rw (some, forward) at is in text_forward i.size (i.text value) t e)
    | inr address ↦
        (let e = rw (some, address) at is in
        let stands = none_stands (value_tests i d rva value) 0 _ none refl in
        let inside = inside_by (is_inside i value 1) (rw (some, address) at stands) in
        let below : value + 1 ≤ i.size = leb-≤ _ _ inside in
        let lt : value < i.size = omega (arith, below) in
        subst (IsIn i.size) (same_Some (Rva value) t e) lt)
  ]
]

map_some : {X Y : Type 0} (f : X → Y) (o : Option X) (y : Y) → option_map f o ≡ Some y → (x : X) × (o ≡ Some x) × (y ≡ f x)
map_some f None y is = absurd cc
map_some f (Some x) y is = (x, refl, sym (same_Some (f x) y is))

each_first : (P : List ℕ × ℕ → Type 0) (ns : List (List ℕ × ℕ)) → Each P ns → Each P (first_of_each ns)
each_first P [] e = tt
each_first P (n ∷ ns) e = (e.0, each_filter P (λ m. not (bytes_eq n.0 m.0)) (first_of_each ns) (each_first P ns e.1))

module _ (i : LaidOut) (d : Directory) (none : first_standing (export_tests_at i (Some d)) ≡ None) where
  entries_none : Each (λ (k : ℕ). first_standing (entry_tests i d (table_at i d.rva) k) ≡ None) (range_with_len 0 (table_at i d.rva).entry_count)
  unfolding each_tests
  entries_none =
      let t = table_at i d.rva in
      let a = none-append (directory_tests i t) (each_tests (name_tests i t) t.name_count ++ each_tests (entry_tests i d t) t.entry_count) none in
      let b = none-append (each_tests (name_tests i t) t.name_count) (each_tests (entry_tests i d t) t.entry_count) a.1 in
      flat_none (entry_tests i d t) (range_with_len 0 t.entry_count) b.1

  names_none : Each (λ (k : ℕ). first_standing (name_tests i (table_at i d.rva) k) ≡ None) (range_with_len 0 (table_at i d.rva).name_count)
  unfolding each_tests
  names_none =
      let t = table_at i d.rva in
      let a = none-append (directory_tests i t) (each_tests (name_tests i t) t.name_count ++ each_tests (entry_tests i d t) t.entry_count) none in
      let b = none-append (each_tests (name_tests i t) t.name_count) (each_tests (entry_tests i d t) t.entry_count) a.1 in
      flat_none (name_tests i t) (range_with_len 0 t.name_count) b.0

  ordinals_fit : Each (λ (x : ℕ × Target). IsIn i.size x.1) (exports_at i (Some d)).ordinals
  ordinals_fit =
      let t = table_at i d.rva in
      each_some (λ (k : ℕ). first_standing (entry_tests i d t k) ≡ None) (λ (x : ℕ × Target). IsIn i.size x.1) (by_entry i d t)
      (λ k x none is. let made = map_some (λ target. (t.ordinal_base + k, target)) (target_of i d (entry i t k)) x is in
      rw made.2 (value_fits i d (t.addresses + 4 * k) (entry i t k) made.0 none made.1))
      (range_with_len 0 t.entry_count) entries_none

  -- each name's entry is one of the table
  names_within : Each (λ (n : List ℕ × ℕ). n.1 < (table_at i d.rva).entry_count) (names_of i (table_at i d.rva))
  names_within =
      let t = table_at i d.rva in
      each_some (λ (k : ℕ). first_standing (name_tests i t k) ≡ None) (λ (n : List ℕ × ℕ). n.1 < t.entry_count) (named i t)
      (λ k n none is. let made = map_some (λ text. (text, name_entry i t k)) (name_text i t k) n is in
      rw made.2 (leb-false t.entry_count (name_entry i t k) (none_stands (name_tests i t k) 1 _ none refl)))
      (range_with_len 0 t.name_count) names_none

  names_fit : Each (λ (x : List ℕ × Target). IsIn i.size x.1) (exports_at i (Some d)).names
  names_fit =
      let t = table_at i d.rva in
      each_some (λ (n : List ℕ × ℕ). n.1 < t.entry_count) (λ (x : List ℕ × Target). IsIn i.size x.1) (by_name i d t)
      (λ n x lt is. let made = map_some (λ target. (n.0, target)) (target_of i d (entry i t n.1)) x is in
      let none = each_range (λ (k : ℕ). first_standing (entry_tests i d t k) ≡ None) 0 t.entry_count n.1 entries_none (omega arith) (omega (arith, lt)) in
      rw made.2 (value_fits i d (t.addresses + 4 * n.1) (entry i t n.1) made.0 none made.1))
      (first_of_each (names_of i t)) (each_first (λ (n : List ℕ × ℕ). n.1 < t.entry_count) (names_of i t) names_within)

  at_fits : (key : Key) (t : Target) → target_at (exports_at i (Some d)) key ≡ Some t → IsIn i.size t
  at_fits (Ordinal n) t found = found_in i.size (λ p. p.0 == n) (exports_at i (Some d)).ordinals t ordinals_fit found
  at_fits (Name text) t found = found_in i.size (λ p. bytes_eq text p.0) (exports_at i (Some d)).names t names_fit found

fits_by : (i : LaidOut) (o : Option Directory) (key : Key) (t : Target) → first_standing (export_tests_at i o) ≡ None → target_at (exports_at i o) key ≡ Some t → IsIn i.size t
fits_by i None (Ordinal n) t none found = absurd cc
fits_by i None (Name text) t none found = absurd cc
fits_by i (Some d) key t none found = at_fits i d none key t found

-- an export's RVA is in the image
pub target_fits : (i : LaidOut) (key : Key) (rva : ℕ) → first_standing (export_tests i) ≡ None → target_at (exports_of i) key ≡ Some (Rva rva) → rva < i.size
target_fits i key rva none found = fits_by i (i.directory 0) key (Rva rva) none found
