-- The names of delay-loaded imports, and where their slots are.
use Rattle.std.proofs.Common.{◌≡◌, ◌∙◌, ℕ, zero, suc, ◌+◌, ◌-◌, ◌<◌, ◌≤◌, Bool, true, false, cond, not, List, [], ◌∷◌, ◌++◌, length, Option, None, Some, All, refl, sym, ap, subst, inl, inr, arith, length-append}
use Rattle.std.specs.Prelude.{map, take_while}
use Rattle.std.specs.List.{range_with_len}
use Rattle.std.specs.Option.{option_and_then, unwrap_or}
use Rattle.std.proofs.Math.Nat.{min-le_left}
use Rattle.std.proofs.lemmas.Bool.{and_parts, cases_Bool, not-true}
use Rattle.std.proofs.lemmas.List.{length-map}
use Rattle.std.proofs.lemmas.List.Elements.{All-append, All-cons, All-map, All-nil, All-weaker}
use Rattle.std.proofs.lemmas.List.Sums.{take_while-cons}
use Rattle.std.proofs.lemmas.Option.{same_Some}
use Rattle.pe_layout.specs.Image.{LaidOut}
use Rattle.pe_tables.specs.ImportNames.{AreNamedAt, IsNamedAt}
use Rattle.pe_tables.specs.Imports.{Import, Lookup, is_ordinal}
use Rattle.pe_tables.specs.Key.{Key, Name, Ordinal}
use Rattle.pe_delay.specs.Descriptors.{delay_descriptors}
use Rattle.pe_delay.specs.Entries.{entries_from, entry_at, entry_count, import_by, imports_by, is_import, is_placed, key_in, lacks_name, most_after, name_in, name_rva}
use Rattle.pe_delay.specs.Imports.{delay_imports_of, imports_after, imports_in, is_whole}
use Rattle.pe_delay.specs.Names.{delay_names_of, name_rva_in, names_after, names_by, names_in}
use Rattle.pe_delay.specs.Tables.{module_of, tables_of}
use Rattle.pe_delay.specs.declared.descriptor.DelayDescriptor.{DelayDescriptor}
use Rattle.pe_delay.specs.declared.tables.Tables.{Tables}
use Rattle.pe_delay.proofs.Steps.{placed_slot}
use Rattle.pe_delay.proofs.Walks.{items_few, none_here, one_more}

abbrev name_or : Key → List ℕ → List ℕ
name_or (Ordinal n) other = other
name_or (Name a) other = a

same_name : (a b : List ℕ) → Name a ≡ Name b → a ≡ b
same_name a b is = ap (λ (key : Key). name_or key a) is

-- ---- entry by entry
none_of : {X Y : Type 0} (f : X → Y) (xs : List X) → map f xs ≡ [] → xs ≡ []
none_of f [] none = refl
none_of f (x ∷ xs) none = absurd cc

module _ (i : LaidOut) (t : Tables) (module_name : List ℕ) (most k : ℕ) where
  pub names_none : imports_by i t module_name most k ≡ [] → names_by i t most k ≡ []
  names_none none = ap (map (name_rva_in i t)) (none_of (import_by i t module_name) (entries_from i t most k) none)

  pub names_next : (x : Import) (rest : List Import) → k < most → imports_by i t module_name most k ≡ x ∷ rest
      → (is_import i t (entry_at i t k) ≡ true) × (names_by i t most k ≡ name_rva_in i t (entry_at i t k) ∷ names_by i t most (k + 1))
  names_next x rest under is = elim (cases_Bool (is_import i t (entry_at i t k))) [
    | inl passes ↦ (passes, ap (map (name_rva_in i t)) (one_more (is_import i t) (entry_at i t) most k under passes))
    | inr fails ↦
        let none : imports_by i t module_name most k ≡ [] = ap (map (import_by i t module_name)) (none_here (is_import i t) (entry_at i t) most k under fails) in
        let clash : [] ≡ x ∷ rest = sym none ∙ is in
        absurd cc
  ]

taken_by : {X : Type 0} (p : X → Bool) (x : X) (xs : List X) (b : Bool) → p x ≡ b → All (λ x. p x ≡ true) (take_while p xs) → All (λ x. p x ≡ true) (cond b (x ∷ take_while p xs) [])
taken_by p x xs true is rest = All-cons (λ x. p x ≡ true) x (take_while p xs) is rest
taken_by p x xs false is rest = All-nil (λ x. p x ≡ true)

taken_pass : {X : Type 0} (p : X → Bool) (xs : List X) → All (λ x. p x ≡ true) (take_while p xs)
taken_pass p [] = All-nil (λ x. p x ≡ true)
taken_pass p (x ∷ xs) = subst (All (λ x. p x ≡ true)) (sym (take_while-cons p x xs)) (taken_by p x xs (p x) refl (taken_pass p xs))

module _ (i : LaidOut) (t : Tables) where
  pub all_import : (most k : ℕ) → All (λ (l : Lookup). is_import i t l ≡ true) (entries_from i t most k)
  all_import most k = taken_pass (is_import i t) (map (entry_at i t) (range_with_len k (most - k)))

  -- ---- names
  named_by : (l : Lookup) (m name : List ℕ) (o : Option ℕ) → name_rva i t l.value ≡ o → lacks_name i t l.value ≡ false → is_ordinal i l.value ≡ false
      → unwrap_or (name_in i t l.value) [] ≡ unwrap_or (i.text (unwrap_or (name_rva i t l.value) 0)) []
  named_by l m name None is has by_name =
      let none : name_in i t l.value ≡ None = ap (option_and_then i.text) is in
      let lacks : lacks_name i t l.value ≡ true = rw (by_name, none) refl in
      let clash : true ≡ false = sym lacks ∙ has in
      absurd cc
  named_by l m name (Some rva) is has by_name = rw is refl

  key_of_name : (l : Lookup) (name : List ℕ) (b : Bool) → is_ordinal i l.value ≡ b → key_in i t l.value ≡ Name name → (is_ordinal i l.value ≡ false) × (name ≡ unwrap_or (name_in i t l.value) [])
  key_of_name l name true is key = let ordinal = rw is at key in absurd cc
  key_of_name l name false is key = (is, sym (same_name (unwrap_or (name_in i t l.value) []) name (rw is at key)))

  is_named : (l : Lookup) (m : List ℕ) → is_import i t l ≡ true → IsNamedAt i (name_rva_in i t l) (import_by i t m l)
  is_named l m passes = λ name key.
      let by_name = key_of_name l name _ refl key in
      let has : lacks_name i t l.value ≡ false = not-true (lacks_name i t l.value) (and_parts (is_placed i t l) (not (lacks_name i t l.value)) passes).1 in
      by_name.1 ∙ named_by l m name _ refl has by_name.0 ∙ ap (λ (b : Bool). unwrap_or (i.text (cond b 0 (unwrap_or (name_rva i t l.value) 0))) []) (sym by_name.0)

  named_all : (m : List ℕ) (ls : List Lookup) → All (λ (l : Lookup). is_import i t l ≡ true) ls → AreNamedAt i (map (name_rva_in i t) ls) (map (import_by i t m) ls)
  named_all m [] all k rva x at here = absurd cc
  named_all m (l ∷ ls) all zero rva x at here =
      subst (λ (r : ℕ). IsNamedAt i r x) (same_Some (name_rva_in i t l) rva at)
      (subst (IsNamedAt i (name_rva_in i t l)) (same_Some (import_by i t m l) x here) (is_named l m (all 0 l (omega arith))))
  named_all m (l ∷ ls) all (suc k) rva x at here = named_all m ls (λ j d lt. all (suc j) d (omega (arith, lt))) k rva x at here

named_append : (i : LaidOut) (a b : List ℕ) (x y : List Import) → length a ≡ length x → AreNamedAt i a x → AreNamedAt i b y → AreNamedAt i (a ++ b) (x ++ y)
named_append i [] b [] y size first rest k rva import at here = rest k rva import at here
named_append i [] b (p ∷ x) y size first rest k rva import at here = absurd (omega (arith, size))
named_append i (r ∷ a) b [] y size first rest k rva import at here = absurd (omega (arith, size))
named_append i (r ∷ a) b (p ∷ x) y size first rest zero rva import at here = first zero rva import at here
named_append i (r ∷ a) b (p ∷ x) y size first rest (suc k) rva import at here =
    named_append i a b x y (omega (arith, size)) (λ j rva import at here. first (suc j) rva import at here) rest k rva import at here

-- ---- descriptor by descriptor
module _ (i : LaidOut) where
  named_in : (read : ℕ) (d : DelayDescriptor) (b : Bool) → is_whole i read d ≡ b → (AreNamedAt i (names_in i read d) (imports_in i read d)) × (length (names_in i read d) ≡ length (imports_in i read d))
  named_in read d true is =
      let t = tables_of i d in
      let m = unwrap_or (module_of i d) [] in
      let ls = entries_from i t (most_after i read) 0 in
      rw is (named_all i t m ls (all_import i t (most_after i read) 0), length-map ls (name_rva_in i t) ∙ sym (length-map ls (import_by i t m)))
  named_in read d false is = rw is ((λ k rva import at here. absurd cc), refl)

  named_after : (read : ℕ) (ds : List DelayDescriptor) → AreNamedAt i (names_after i read ds) (imports_after i read ds)
  named_after read [] k rva import at here = absurd cc
  named_after read (d ∷ ds) k rva import at here =
      let own = named_in read d _ refl in
      let next = read + entry_count i (tables_of i d) read in
      named_append i (names_in i read d) (names_after i next ds) (imports_in i read d) (imports_after i next ds) own.1 own.0 (named_after next ds) k rva import at here

  -- each import has the string at its RVA
  pub are_named : AreNamedAt i (delay_names_of i) (delay_imports_of i)
  are_named = named_after 0 (delay_descriptors i)

  -- ---- slots
  abbrev pub IsInside : Import → Type 0
  IsInside x = x.slot + i.slot_width ≤ i.size

  inside_in : (read : ℕ) (d : DelayDescriptor) (b : Bool) → is_whole i read d ≡ b → All IsInside (imports_in i read d)
  inside_in read d true is =
      let t = tables_of i d in
      let m = unwrap_or (module_of i d) [] in
      let ls = entries_from i t (most_after i read) 0 in
      rw is (All-map IsInside (import_by i t m) ls
      (All-weaker (λ (l : Lookup). is_import i t l ≡ true) (λ (l : Lookup). IsInside (import_by i t m l)) (λ l passes. placed_slot i t l (and_parts (is_placed i t l) (not (lacks_name i t l.value)) passes).0) ls
      (all_import i t (most_after i read) 0)))
  inside_in read d false is = rw is (All-nil IsInside)

  inside_after : (read : ℕ) (ds : List DelayDescriptor) → All IsInside (imports_after i read ds)
  inside_after read [] = All-nil IsInside
  inside_after read (d ∷ ds) =
      let next = read + entry_count i (tables_of i d) read in
      All-append IsInside (imports_in i read d) (imports_after i next ds) (inside_in read d _ refl) (inside_after next ds)

  pub are_inside : All IsInside (delay_imports_of i)
  are_inside = inside_after 0 (delay_descriptors i)

  -- ---- how many there are
  few_in : (read : ℕ) (d : DelayDescriptor) (b : Bool) → is_whole i read d ≡ b → length (imports_in i read d) ≤ entry_count i (tables_of i d) read
  few_in read d true is =
      let t = tables_of i d in
      let m = unwrap_or (module_of i d) [] in
      let ls = entries_from i t (most_after i read) 0 in
      rw is (let same = length-map ls (import_by i t m) in omega (arith, same))
  few_in read d false is = rw is (omega arith)

  few_after : (read : ℕ) (ds : List DelayDescriptor) → read ≤ 1048576 → length (imports_after i read ds) + read ≤ 1048576
  few_after read [] le = omega (arith, le)
  few_after read (d ∷ ds) le =
      let t = tables_of i d in
      let count = entry_count i t read in
      let own = few_in read d _ refl in
      let most = items_few (is_import i t) (entry_at i t) (most_after i read) 0 in
      let least = min-le_left (1048576 - read) i.size in
      let next = few_after (read + count) ds (omega (arith, most, least, le)) in
      let all = length-append (imports_in i read d) (imports_after i (read + count) ds) in
      omega (arith, own, next, all)

  pub are_few : length (delay_imports_of i) ≤ 1048576
  are_few = let all = few_after 0 (delay_descriptors i) (omega arith) in omega (arith, all)
