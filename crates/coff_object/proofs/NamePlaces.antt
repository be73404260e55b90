-- A name keeps its offset while more names are added.
use Rattle.std.proofs.Common.{◌≡◌, ℕ, ◌+◌, ◌^◌, ◌<◌, ◌≤◌, Bool, true, List, [], ◌∷◌, ◌++◌, length, drop, get_or, refl, sym, ap, ◌∙◌, append_assoc, append-nil, arith, inl, inr}
use Rattle.std.specs.Prelude.{map, filter, ◌||◌}
use Rattle.std.specs.Str.{bytes_eq}
use Rattle.std.proofs.lemmas.Bool.{cases_Bool, or_left, or_right}
use Rattle.std.proofs.lemmas.List.{drop_all, length-map}
use Rattle.pe_numbers.specs.declared.number.Number.TheVariants.{U32}
use Rattle.pe_numbers.specs.Numbers.{numbers_bytes}
use Rattle.coff_object.specs.NamePlaces.{place_of, section_places, symbol_places}
use Rattle.coff_read.specs.Strings.{is_among, with_string, with_strings, offset_from, offset_of, string_bytes}
use Rattle.coff_read.specs.Names.{decimal_digits, padded, is_long, is_long_section_name}
use Rattle.coff_read.specs.Records.{Section, Object}
use Rattle.coff_object.specs.StringTableView.{counted}
use Rattle.coff_object.specs.Written.{long_section_names, long_symbol_names, section_name_at, symbol_name_at, strings_of}
use Rattle.coff_object.proofs.Listed.{items_left, get_or_map}
use Rattle.coff_object.proofs.Offsets.{offset-ge}
use Rattle.coff_object.proofs.Writable.{offset-le}
use Rattle.coff_object.proofs.StringTable.{equal_bytes, in-all, in-first, in-new}

offset-before : (at : ℕ) (texts more : List (List ℕ)) (text : List ℕ) → is_among text texts ≡ true → offset_from at (texts ++ more) text ≡ offset_from at texts text
offset-before at [] more text is = absurd cc
offset-before at (t ∷ texts) more text is = elim (cases_Bool (bytes_eq text t)) [
  | inl same ↦ rw same refl
  | inr other ↦
      (let later : is_among text texts ≡ true = rw other at is in
      rw other (offset-before (at + length t + 1) texts more text later))
]

offset-kept : (table : List (List ℕ)) (t text : List ℕ) → is_among text table ≡ true → offset_of (with_string table t) text ≡ offset_of table text
offset-kept table t text is = elim (cases_Bool (is_among t table)) [
  | inl there ↦ rw there refl
  | inr new ↦ rw new (offset-before 4 table (t ∷ []) text is)
]

pub offset-stays : (table texts : List (List ℕ)) (text : List ℕ) → is_among text table ≡ true → offset_of (with_strings table texts) text ≡ offset_of table text
offset-stays table [] text is = refl
offset-stays table (t ∷ texts) text is = offset-stays (with_string table t) texts text (in-first text table (t ∷ []) is) ∙ offset-kept table t text is

strings_front : (test : List ℕ → Bool) (name : List ℕ) (table names : List (List ℕ)) → with_strings table (filter test (name ∷ names)) ≡ with_strings (with_strings table (filter test (name ∷ []))) (filter test names)
strings_front test name table names = elim (cases_Bool (test name)) [
  | inl long ↦ rw long refl
  | inr short ↦ rw short refl
]

-- the offset of a name that was added
pub place-stays : (test : List ℕ → Bool) (table texts : List (List ℕ)) (name : List ℕ) → place_of test (with_strings (with_strings table (filter test (name ∷ []))) texts) name ≡ place_of test (with_strings table (filter test (name ∷ []))) name
place-stays test table texts name = elim (cases_Bool (test name)) [
  | inl long ↦ rw long (ap counted (offset-stays (with_string table name) texts name (in-new table name)))
  | inr short ↦ rw short refl
]

-- the offsets of names in a table
pub places-stay : {X : Type 0} (test : List ℕ → Bool) (name : X → List ℕ) (table more : List (List ℕ)) (xs : List X)
    → ((text : List ℕ) → is_among text (filter test (map name xs)) ≡ true → is_among text table ≡ true)
    → map (λ (x : X). place_of test (with_strings table more) (name x)) xs ≡ map (λ (x : X). place_of test table (name x)) xs
places-stay test name table more [] each = refl
places-stay test name table more (x ∷ xs) each = elim (cases_Bool (test (name x))) [
  | inl long ↦
      (let all : (text : List ℕ) → (bytes_eq text (name x) || is_among text (filter test (map name xs))) ≡ true → is_among text table ≡ true = rw long at each in
      let here : is_among (name x) table ≡ true = all (name x) (or_left _ _ (equal_bytes (name x))) in
      let later = places-stay test name table more xs (λ text is. all text (or_right _ _ is)) in
      rw (long, offset-stays table more (name x) here) (ap (λ (ns : List ℕ). counted (offset_of table (name x)) ∷ ns) later))
  | inr short ↦
      (let all : (text : List ℕ) → is_among text (filter test (map name xs)) ≡ true → is_among text table ≡ true = rw short at each in
      rw short (ap (λ (ns : List ℕ). 0 ∷ ns) (places-stay test name table more xs all)))
]

-- one more name is placed
pub next_place : {X : Type 0} (test : List ℕ → Bool) (name : X → List ℕ) (first before after : List (List ℕ)) (xs : List X) (i : ℕ) (x : X) (places new : List ℕ) (place : ℕ)
    → i < length xs → x ≡ get_or xs i x
    → with_strings before (filter test (map name (drop i xs))) ≡ with_strings first (filter test (map name xs))
    → after ≡ with_strings before (filter test (name x ∷ []))
    → place ≡ place_of test after (name x) → new ≡ places ++ place ∷ []
    → places ++ map (λ (y : X). place_of test (with_strings first (filter test (map name xs))) (name y)) (drop i xs) ≡ map (λ (y : X). place_of test (with_strings first (filter test (map name xs))) (name y)) xs
    → new ++ map (λ (y : X). place_of test (with_strings first (filter test (map name xs))) (name y)) (drop (i + 1) xs) ≡ map (λ (y : X). place_of test (with_strings first (filter test (map name xs))) (name y)) xs
next_place test name first before after xs i x places new place lt is texts added at pushed told =
    let whole : List (List ℕ) = with_strings first (filter test (map name xs)) in
    let rest : List (List ℕ) = filter test (map name (drop (i + 1) xs)) in
    let f : (_ → ℕ) = λ y. place_of test whole (name y) in
    let split : map name (drop i xs) ≡ name x ∷ map name (drop (i + 1) xs) = items_left name xs i x lt is in
    let later : with_strings (with_strings before (filter test (name x ∷ []))) rest ≡ whole = sym (strings_front test (name x) before (map name (drop (i + 1) xs))) ∙ ap (λ (ns : List (List ℕ)). with_strings before (filter test ns)) (sym split) ∙ texts in
    let here : place ≡ f x = at ∙ ap (λ (ts : List (List ℕ)). place_of test ts (name x)) added ∙ sym (place-stays test before rest (name x)) ∙ ap (λ (ts : List (List ℕ)). place_of test ts (name x)) later in
    ap (λ (ns : List ℕ). ns ++ map f (drop (i + 1) xs)) pushed ∙ append_assoc places (place ∷ []) (map f (drop (i + 1) xs))
    ∙ ap (λ (n : ℕ). places ++ (n ∷ map f (drop (i + 1) xs))) here ∙ ap (λ (ns : List ℕ). places ++ ns) (sym (items_left f xs i x lt is)) ∙ told

-- all names are placed
pub all_placed : {X : Type 0} (f : X → ℕ) (xs : List X) (i : ℕ) (places : List ℕ) → length xs ≤ i → places ++ map f (drop i xs) ≡ map f xs → places ≡ map f xs
all_placed f xs i places le told = sym (append-nil places) ∙ ap (λ (ys : List _). places ++ map f ys) (sym (drop_all i xs le)) ∙ told

-- one more name is added
pub next_texts : {X : Type 0} (test : List ℕ → Bool) (name : X → List ℕ) (before after whole : List (List ℕ)) (xs : List X) (i : ℕ) (x : X)
    → i < length xs → x ≡ get_or xs i x → with_strings before (filter test (map name (drop i xs))) ≡ whole
    → after ≡ with_strings before (filter test (name x ∷ [])) → with_strings after (filter test (map name (drop (i + 1) xs))) ≡ whole
next_texts test name before after whole xs i x lt is texts added =
    let rest : List (List ℕ) = map name (drop (i + 1) xs) in
    ap (λ (ts : List (List ℕ)). with_strings ts (filter test rest)) added ∙ sym (strings_front test (name x) before rest)
    ∙ ap (λ (ns : List (List ℕ)). with_strings before (filter test ns)) (sym (items_left name xs i x lt is)) ∙ texts

-- the offsets of names, as the written form has them
pub as_viewed : {X Y : Type 0} (view : X → Y) (f : X → ℕ) (g : Y → ℕ) (xs : List X) → ((x : X) → f x ≡ g (view x)) → map f xs ≡ map g (map view xs)
as_viewed view f g [] each = refl
as_viewed view f g (x ∷ xs) each = ap (λ (n : ℕ). n ∷ map f xs) (each x) ∙ ap (λ (ns : List ℕ). g (view x) ∷ ns) (as_viewed view f g xs each)

-- the offsets of an object's names
pub record Placed (o : Object) (two : List (List ℕ)) (ss ys : List ℕ) : Type 0 where
  pub texts : two ≡ strings_of o
  pub sections : ss ≡ section_places (strings_of o) o.sections
  pub symbols : ys ≡ symbol_places (strings_of o) o.symbols

pub placed : (o : Object) (one two : List (List ℕ)) (sections symbols : List ℕ) → one ≡ with_strings [] (long_section_names o.sections) → two ≡ with_strings one (long_symbol_names o.symbols)
    → sections ≡ section_places one o.sections → symbols ≡ symbol_places two o.symbols → Placed o two sections symbols
unfolding strings_of
placed o one two sections symbols first second of_sections of_symbols =
    let texts : two ≡ strings_of o = second ∙ ap (λ (ts : List (List ℕ)). with_strings ts (long_symbol_names o.symbols)) first in
    let stay : section_places (strings_of o) o.sections ≡ section_places (with_strings [] (long_section_names o.sections)) o.sections =
    places-stay is_long_section_name (λ (s : Section). s.name) (with_strings [] (long_section_names o.sections)) (long_symbol_names o.symbols) o.sections (λ text is. in-all text [] (long_section_names o.sections) is) in
    record {
      texts = texts;
      sections = of_sections ∙ ap (λ (ts : List (List ℕ)). section_places ts o.sections) first ∙ sym stay;
      symbols = of_symbols ∙ ap (λ (ts : List (List ℕ)). symbol_places ts o.symbols) texts;
    }

-- the offset of the name of the item at an index
pub place_at : {X Y : Type 0} (test : List ℕ → Bool) (view : X → Y) (name : Y → List ℕ) (strings : List (List ℕ)) (xs : List X) (places : List ℕ) (i : ℕ) (x : X) (place : ℕ)
    → i < length xs → x ≡ get_or xs i x → places ≡ map (λ (y : Y). place_of test strings (name y)) (map view xs) → place ≡ get_or places i place → place ≡ place_of test strings (name (view x))
place_at test view name strings xs places i x place lt is are at =
    let f : (_ → ℕ) = λ y. place_of test strings (name y) in
    let within : i < length (map view xs) = (let len = length-map xs view in omega arith) in
    at ∙ ap (λ (ns : List ℕ). get_or ns i place) are ∙ get_or_map f (map view xs) i place (view x) within ∙ ap f (get_or_map view xs i (view x) x lt) ∙ ap (λ (y : _). f (view y)) (sym is)

-- an offset is no greater than the table's size
pub place-small : (test : List ℕ → Bool) (strings : List (List ℕ)) (name : List ℕ) → place_of test strings name ≤ 4 + length (string_bytes strings)
place-small test strings name =
    let most = offset-le 4 strings name in
    elim (cases_Bool (test name)) [
      | inl long ↦ rw long (omega arith)
      | inr short ↦ rw short (omega arith)
    ]

-- and no less than the first string's, if the name is in the table
pub place-some : (test : List ℕ → Bool) (strings : List (List ℕ)) (name : List ℕ) → test name ≡ true → 4 ≤ place_of test strings name
place-some test strings name long = let least = offset-ge 4 strings name in rw long (omega arith)

-- a symbol's name field by its offset
pub symbol_field : (strings : List (List ℕ)) (name : List ℕ) (place : ℕ) → place ≡ place_of is_long strings name → place < 2 ^ 32 → symbol_name_at place name ≡ symbol_name_at (offset_of strings name) name
symbol_field strings name place is small = elim (cases_Bool (is_long name)) [
  | inl long ↦
      (let at : place ≡ counted (offset_of strings name) = is ∙ rw long refl in
      let same : place ≡ offset_of strings name = omega arith in
      rw long (ap (λ (n : ℕ). numbers_bytes (U32 0 ∷ U32 n ∷ [])) same))
  | inr short ↦ rw short refl
]

-- a section's name field by its offset
pub section_field : (strings : List (List ℕ)) (name : List ℕ) (place : ℕ) → place ≡ place_of is_long_section_name strings name → place ≤ 9999999 → section_name_at place name ≡ section_name_at (offset_of strings name) name
section_field strings name place is small = elim (cases_Bool (is_long_section_name name)) [
  | inl long ↦
      (let at : place ≡ counted (offset_of strings name) = is ∙ rw long refl in
      let same : place ≡ offset_of strings name = omega arith in
      rw long (ap (λ (n : ℕ). padded (47 ∷ decimal_digits n)) same))
  | inr short ↦ rw short refl
]
