-- What the keys of an export table export.
use Rattle.std.proofs.Common.{◌≡◌, ◌≢◌, ℕ, zero, suc, ◌+◌, ◌<◌, ◌≤◌, Bool, true, false, List, [], ◌∷◌, Option, Some, None, refl, sym, ap, ◌∙◌, arith, inl, inr}
use Rattle.std.specs.Prelude.{◌==◌, filter, option_map, option_and_then, All, AllPairs}
use Rattle.std.specs.List.{filter_map, find, cons_option, range_with_len}
use Rattle.std.specs.Str.{bytes_eq}
use Rattle.std.proofs.lemmas.Bool.{cases_eq, false_from_ne_true, true≢false}
use Rattle.std.proofs.lemmas.List.Elements.{All-cons}
use Rattle.std.proofs.lemmas.List.Kept.{AllPairs-cons}
use Rattle.std.proofs.lemmas.Slice.Eq.{bytes_eq-Decides}
use Rattle.pe_head.specs.declared.directory.Directory.{Directory}
use Rattle.pe_layout.specs.Image.{LaidOut}
use Rattle.pe_tables.specs.Key.{Target, Ordinal, Name}
use Rattle.pe_tables.specs.Exports.{table_at, entry, target_of, name_text, name_entry, named, names_of, first_of_each, exports_at, target_at}
use Rattle.pe_tables.specs.ExportPlaces.{IsFirstName, IsUnnamed, IsUnnumbered}
use Rattle.pe_tables.specs.declared.export_table.Table.{Table}
use Rattle.pe_tables.proofs.Names.{Named, has, differs, found_first}
use Rattle.pe_tables.proofs.Search.{equal, unequal}

module _ (i : LaidOut) (t : Table) (text : List ℕ) where
  abbrev search : ℕ → ℕ → Option Named
  search from n = find (has text) (filter_map (named i t) (range_with_len from n))

  passes : (o : Option (List ℕ)) (k : ℕ) (rest : List Named) → o ≢ Some text → find (has text) (cons_option (option_map (λ s. (s, k)) o) rest) ≡ find (has text) rest
  passes None k rest other = refl
  passes (Some s) k rest other =
      let differs : bytes_eq text s ≡ false = false_from_ne_true (bytes_eq text s) (λ same. other (ap (λ (s : List ℕ). Some s) (sym ((bytes_eq-Decides text s).0 same)))) in
      rw differs refl

  hits : (o : Option (List ℕ)) (k : ℕ) (rest : List Named) → o ≡ Some text → find (has text) (cons_option (option_map (λ s. (s, k)) o) rest) ≡ Some (text, k)
  hits o k rest is =
      let same : bytes_eq text text ≡ true = (bytes_eq-Decides text text).1 refl in
      let found : find (has text) ((text, k) ∷ rest) ≡ Some (text, k) = rw same refl in
      ap (λ (o : Option (List ℕ)). find (has text) (cons_option (option_map (λ s. (s, k)) o) rest)) is ∙ found

  search_first : (from n k : ℕ) → from ≤ k → k < from + n → name_text i t k ≡ Some text → ((j : ℕ) → from ≤ j → j < k → name_text i t j ≢ Some text) → search from n ≡ Some (text, name_entry i t k)
  search_first from zero k low high is first = absurd (omega arith)
  search_first from (suc n) k low high is first = elim (cases_eq k from) [
    | inl here ↦
        hits (name_text i t from) (name_entry i t from) (filter_map (named i t) (range_with_len (from + 1) n)) (ap (name_text i t) (sym here) ∙ is)
        ∙ ap (λ (j : ℕ). Some (text, name_entry i t j)) (sym here)
    | inr later ↦
        passes (name_text i t from) (name_entry i t from) (filter_map (named i t) (range_with_len (from + 1) n)) (first from (omega arith) (omega arith))
        ∙ search_first (from + 1) n k (omega arith) (omega arith) is (λ j low' high'. first j (omega arith) high')
  ]

  search_none : (from n : ℕ) → ((k : ℕ) → from ≤ k → k < from + n → name_text i t k ≢ Some text) → search from n ≡ None
  search_none from zero none = refl
  search_none from (suc n) none =
      passes (name_text i t from) (name_entry i t from) (filter_map (named i t) (range_with_len (from + 1) n)) (none from (omega arith) (omega arith))
      ∙ search_none (from + 1) n (λ k low high. none k (omega arith) (omega arith))

module _ (i : LaidOut) (d : Directory) (text : List ℕ) where
  abbrev its_table : Table
  its_table = table_at i d.rva

  by_first : target_at (exports_at i (Some d)) (Name text) ≡ option_and_then (λ n. target_of i d (entry i its_table n.1)) (find (has text) (names_of i its_table))
  by_first = found_first (λ (k : ℕ). target_of i d (entry i its_table k)) text (names_of i its_table)

  pub first-exports : (k : ℕ) → IsFirstName i its_table text k → target_at (exports_at i (Some d)) (Name text) ≡ target_of i d (entry i its_table (name_entry i its_table k))
  first-exports k is =
      by_first ∙ ap (option_and_then (λ (n : Named). target_of i d (entry i its_table n.1)))
      (search_first i its_table text 0 its_table.name_count k (omega arith) (let lt = is.within in omega arith) is.has (λ j low lt. is.first j lt))

  pub unnamed-exports : IsUnnamed i its_table text → target_at (exports_at i (Some d)) (Name text) ≡ None
  unnamed-exports none =
      by_first ∙ ap (option_and_then (λ (n : Named). target_of i d (entry i its_table n.1)))
      (search_none i its_table text 0 its_table.name_count (λ k low lt. none k (omega arith)))

-- Entry k exports f k by the ordinal base + k.
module _ (f : ℕ → Option Target) (base : ℕ) where
  abbrev Numbered : Type 0
  Numbered = ℕ × Target

  abbrev numbered : ℕ → Option Numbered
  numbered k = option_map (λ target. (base + k, target)) (f k)

  abbrev exported : ℕ → ℕ → List Numbered
  exported from n = filter_map numbered (range_with_len from n)

  abbrev of_ordinal : ℕ → List Numbered → Option Numbered
  of_ordinal ordinal exports = find (λ (p : Numbered). p.0 == ordinal) exports

  skips : (ordinal other : ℕ) (o : Option Target) (rest : List Numbered) → (other ≡ ordinal → ⊥) → of_ordinal ordinal (cons_option (option_map (λ target. (other, target)) o) rest) ≡ of_ordinal ordinal rest
  skips ordinal other None rest ne = refl
  skips ordinal other (Some target) rest ne = rw (unequal other ordinal ne) refl

  unnumbered : (ordinal from n : ℕ) → ((k : ℕ) → from ≤ k → k < from + n → ordinal ≢ base + k) → of_ordinal ordinal (exported from n) ≡ None
  unnumbered ordinal from zero none = refl
  unnumbered ordinal from (suc n) none =
      skips ordinal (base + from) (f from) (exported (from + 1) n) (λ e. none from (omega arith) (omega arith) (sym e))
      ∙ unnumbered ordinal (from + 1) n (λ k low high. none k (omega arith) (omega arith))

  first_of : (ordinal : ℕ) (o : Option Target) (rest : List Numbered) → of_ordinal ordinal rest ≡ None → option_map (λ p. p.1) (of_ordinal ordinal (cons_option (option_map (λ target. (ordinal, target)) o) rest)) ≡ o
  first_of ordinal None rest none = ap (option_map (λ (p : Numbered). p.1)) none
  first_of ordinal (Some target) rest none =
      let found : of_ordinal ordinal ((ordinal, target) ∷ rest) ≡ Some (ordinal, target) = rw (equal ordinal ordinal refl) refl in
      ap (option_map (λ (p : Numbered). p.1)) found

  pub of_entry : (from n k : ℕ) → from ≤ k → k < from + n → option_map (λ p. p.1) (of_ordinal (base + k) (exported from n)) ≡ f k
  of_entry from zero k low high = absurd (omega arith)
  of_entry from (suc n) k low high = elim (cases_eq k from) [
    | inl here ↦
        ap (λ (j : ℕ). option_map (λ (p : Numbered). p.1) (of_ordinal (base + j) (exported from (suc n)))) here
        ∙ first_of (base + from) (f from) (exported (from + 1) n) (unnumbered (base + from) (from + 1) n (λ j low' high' e. omega arith))
        ∙ ap f (sym here)
    | inr later ↦
        ap (option_map (λ (p : Numbered). p.1)) (skips (base + k) (base + from) (f from) (exported (from + 1) n) (λ e. later (omega arith)))
        ∙ of_entry (from + 1) n k (omega arith) (omega arith)
  ]

  above : (from n bound : ℕ) → bound ≤ base + from → All (λ (p : Numbered). bound ≤ p.0) (exported from n)
  above from zero bound le = λ k e lt. absurd (omega arith)
  above from (suc n) bound le = with_it (above (from + 1) n bound (omega arith)) (f from)
    where
      with_it : All (λ (p : Numbered). bound ≤ p.0) (exported (from + 1) n) → (o : Option Target) → All (λ (p : Numbered). bound ≤ p.0) (cons_option (option_map (λ target. (base + from, target)) o) (exported (from + 1) n))
      with_it rest None = rest
      with_it rest (Some target) = All-cons (λ (p : Numbered). bound ≤ p.0) (base + from, target) (exported (from + 1) n) le rest

  ascend : (from n : ℕ) → AllPairs (λ (p q : Numbered). p.0 < q.0) (exported from n)
  ascend from zero = λ j k e lt inside. absurd (omega arith)
  ascend from (suc n) = with_it (ascend (from + 1) n) (f from)
    where
      with_it : AllPairs (λ (p q : Numbered). p.0 < q.0) (exported (from + 1) n) → (o : Option Target) → AllPairs (λ (p q : Numbered). p.0 < q.0) (cons_option (option_map (λ target. (base + from, target)) o) (exported (from + 1) n))
      with_it rest None = rest
      with_it rest (Some target) = AllPairs-cons (λ (p q : Numbered). p.0 < q.0) (base + from, target) (exported (from + 1) n) (above (from + 1) n (suc (base + from)) (omega arith)) rest

module _ (i : LaidOut) (d : Directory) where
  abbrev entries : ℕ → Option Target
  entries k = target_of i d (entry i (table_at i d.rva) k)

  pub entry-exports : (k : ℕ) → k < (table_at i d.rva).entry_count → target_at (exports_at i (Some d)) (Ordinal ((table_at i d.rva).ordinal_base + k)) ≡ target_of i d (entry i (table_at i d.rva) k)
  entry-exports k lt = of_entry entries (table_at i d.rva).ordinal_base 0 (table_at i d.rva).entry_count k (omega arith) (omega arith)

  pub unnumbered-exports : (ordinal : ℕ) → IsUnnumbered (table_at i d.rva) ordinal → target_at (exports_at i (Some d)) (Ordinal ordinal) ≡ None
  unnumbered-exports ordinal none =
      ap (option_map (λ (p : ℕ × Target). p.1)) (unnumbered entries (table_at i d.rva).ordinal_base ordinal 0 (table_at i d.rva).entry_count (λ k low lt. none k (omega arith)))

  pub ordinals-ascend : AllPairs (λ (p q : ℕ × Target). p.0 < q.0) (exports_at i (Some d)).ordinals
  ordinals-ascend = ascend entries (table_at i d.rva).ordinal_base 0 (table_at i d.rva).entry_count

-- names none of which is this string
abbrev Away : List ℕ → List Named → Type 0
Away text [] = Unit {0}
Away text (n ∷ ns) = (bytes_eq text n.0 ≡ false) × Away text ns

-- no two names are equal
abbrev Apart : List Named → Type 0
Apart [] = Unit {0}
Apart (n ∷ ns) = Away n.0 ns × Apart ns

away-filter : (text : List ℕ) (p : Named → Bool) (ns : List Named) → Away text ns → Away text (filter p ns)
away-filter text p [] away = tt
away-filter text p (n ∷ ns) away = by (away-filter text p ns away.1) (p n) refl
  where
    by : Away text (filter p ns) → (b : Bool) → p n ≡ b → Away text (filter p (n ∷ ns))
    by rest true is = rw is (away.0, rest)
    by rest false is = rw is rest

differs-away : (x : Named) (ns : List Named) → Away x.0 (filter (differs x) ns)
differs-away x [] = tt
differs-away x (n ∷ ns) = by (differs-away x ns) (bytes_eq x.0 n.0) refl
  where
    by : Away x.0 (filter (differs x) ns) → (b : Bool) → bytes_eq x.0 n.0 ≡ b → Away x.0 (filter (differs x) (n ∷ ns))
    by rest true is = rw is rest
    by rest false is = rw is (is, rest)

apart-filter : (p : Named → Bool) (ns : List Named) → Apart ns → Apart (filter p ns)
apart-filter p [] apart = tt
apart-filter p (n ∷ ns) apart = by (apart-filter p ns apart.1) (p n) refl
  where
    by : Apart (filter p ns) → (b : Bool) → p n ≡ b → Apart (filter p (n ∷ ns))
    by rest true is = rw is (away-filter n.0 p ns apart.0, rest)
    by rest false is = rw is rest

apart-first : (ns : List Named) → Apart (first_of_each ns)
apart-first [] = tt
apart-first (n ∷ ns) = (differs-away n (first_of_each ns), apart-filter (differs n) (first_of_each ns) (apart-first ns))

module _ (f : ℕ → Option Target) where
  abbrev Texted : Type 0
  Texted = List ℕ × Target

  abbrev export : Named → Option Texted
  export n = option_map (λ target. (n.0, target)) (f n.1)

  other_text : (a b : List ℕ) → bytes_eq a b ≡ false → a ≢ b
  other_text a b differ same = true≢false (sym ((bytes_eq-Decides a b).1 same) ∙ differ)

  export-away : (text : List ℕ) (ns : List Named) → Away text ns → All (λ (p : Texted). text ≢ p.0) (filter_map export ns)
  export-away text [] away = λ k e lt. absurd (omega arith)
  export-away text (n ∷ ns) away = with_it (export-away text ns away.1) (f n.1)
    where
      with_it : All (λ (p : Texted). text ≢ p.0) (filter_map export ns) → (o : Option Target) → All (λ (p : Texted). text ≢ p.0) (cons_option (option_map (λ target. (n.0, target)) o) (filter_map export ns))
      with_it rest None = rest
      with_it rest (Some target) = All-cons (λ (p : Texted). text ≢ p.0) (n.0, target) (filter_map export ns) (other_text text n.0 away.0) rest

  export-apart : (ns : List Named) → Apart ns → AllPairs (λ (p q : Texted). p.0 ≢ q.0) (filter_map export ns)
  export-apart [] apart = λ j k e lt inside. absurd (omega arith)
  export-apart (n ∷ ns) apart = with_it (export-apart ns apart.1) (f n.1)
    where
      with_it : AllPairs (λ (p q : Texted). p.0 ≢ q.0) (filter_map export ns) → (o : Option Target) → AllPairs (λ (p q : Texted). p.0 ≢ q.0) (cons_option (option_map (λ target. (n.0, target)) o) (filter_map export ns))
      with_it rest None = rest
      with_it rest (Some target) = AllPairs-cons (λ (p q : Texted). p.0 ≢ q.0) (n.0, target) (filter_map export ns) (export-away n.0 ns apart.0) rest

pub names-apart : (i : LaidOut) (d : Directory) → AllPairs (λ (p q : List ℕ × Target). p.0 ≢ q.0) (exports_at i (Some d)).names
names-apart i d = export-apart (λ (k : ℕ). target_of i d (entry i (table_at i d.rva) k)) (first_of_each (names_of i (table_at i d.rva))) (apart-first (names_of i (table_at i d.rva)))
