-- Names, each once, where it first occurs.
use Rattle.std.proofs.Common.{◌≡◌, ℕ, Bool, true, false, List, [], ◌∷◌, ◌++◌, Option, Some, None, refl, sym, ap, ◌∙◌, inl, inr}
use Rattle.std.specs.Prelude.{not, filter, option_map, option_and_then, is_some, if◌then◌else◌}
use Rattle.std.specs.List.{filter_map, find, cons_option}
use Rattle.std.specs.Option.{option_or}
use Rattle.std.specs.Str.{bytes_eq}
use Rattle.std.proofs.lemmas.Bool.{cases_Bool, true≢false}
use Rattle.std.proofs.lemmas.Cmp.{nat_list_eq_equiv}
use Rattle.std.proofs.lemmas.List.Elements.{filter-append}
use Rattle.std.proofs.lemmas.List.Folds.{find-append}
use Rattle.std.proofs.lemmas.Slice.Eq.{bytes_eq-Decides}
use Rattle.pe_tables.specs.Key.{Target}
use Rattle.pe_tables.specs.Exports.{first_of_each}

abbrev pub Named : Type 0
Named = List ℕ × ℕ

-- a name is this string
abbrev pub has : List ℕ → Named → Bool
has text n = bytes_eq text n.0

-- a name is another string than x
abbrev pub differs : Named → Named → Bool
differs x n = not (bytes_eq x.0 n.0)

same : (a b : List ℕ) → bytes_eq a b ≡ true → a ≡ b
same a b = (bytes_eq-Decides a b).0

-- a name after others counts unless one of them is equal
abbrev pub behind : Bool → Named → List Named
behind true n = []
behind false n = n ∷ []

module _ (x n : Named) where
  gone : bytes_eq x.0 n.0 ≡ true → (b : Bool) → filter (differs x) (behind b n) ≡ []
  gone is true = refl
  gone is false = rw is refl

  kept : bytes_eq x.0 n.0 ≡ false → (b : Bool) → filter (differs x) (behind b n) ≡ behind b n
  kept is true = refl
  kept is false = rw is refl

  one_more : (xs : List Named) (h : Bool) → bytes_eq n.0 x.0 ≡ h → filter (differs x) (behind (is_some (find (has n.0) xs)) n) ≡ behind (is_some (find (has n.0) (x ∷ xs))) n
  one_more xs true is =
      let found : find (has n.0) (x ∷ xs) ≡ Some x = rw is refl in
      gone (nat_list_eq_equiv.symm x.0 n.0 ∙ is) (is_some (find (has n.0) xs)) ∙ ap (λ (o : Option Named). behind (is_some o) n) (sym found)
  one_more xs false is =
      let found : find (has n.0) (x ∷ xs) ≡ find (has n.0) xs = rw is refl in
      kept (nat_list_eq_equiv.symm x.0 n.0 ∙ is) (is_some (find (has n.0) xs)) ∙ ap (λ (o : Option Named). behind (is_some o) n) (sym found)

pub first-push : (xs : List Named) (n : Named) → first_of_each (xs ++ n ∷ []) ≡ first_of_each xs ++ behind (is_some (find (has n.0) xs)) n
first-push [] n = refl
first-push (x ∷ xs) n =
    let b : Bool = is_some (find (has n.0) xs) in
    ap (λ (ms : List Named). x ∷ filter (differs x) ms) (first-push xs n)
    ∙ ap (λ (ms : List Named). x ∷ ms) (filter-append (differs x) (first_of_each xs) (behind b n))
    ∙ ap (λ (ms : List Named). x ∷ (filter (differs x) (first_of_each xs) ++ ms)) (one_more x n xs (bytes_eq n.0 x.0) refl)

or_none : (o : Option Named) → option_or o None ≡ o
or_none None = refl
or_none (Some n) = refl

or_known : (o p : Option Named) → is_some o ≡ true → option_or o p ≡ o
or_known None p is = absurd (true≢false (sym is))
or_known (Some n) p is = refl

none_is : (o : Option Named) → is_some o ≡ false → o ≡ None
none_is None is = refl
none_is (Some n) is = absurd (true≢false is)

-- a search for another string passes over the last name
pub find-other : (ns : List Named) (n : Named) (text : List ℕ) → bytes_eq text n.0 ≡ false → find (has text) (ns ++ n ∷ []) ≡ find (has text) ns
find-other ns n text is =
    let last : find (has text) (n ∷ []) ≡ None = rw is refl in
    find-append (has text) ns (n ∷ []) ∙ ap (option_or (find (has text) ns)) last ∙ or_none (find (has text) ns)

-- a string that occurred before is found where it was
pub find-known : (ns : List Named) (n : Named) → is_some (find (has n.0) ns) ≡ true → (text : List ℕ) → find (has text) (ns ++ n ∷ []) ≡ find (has text) ns
find-known ns n known text = elim (cases_Bool (bytes_eq text n.0)) [
  | inl is ↦
      (let known' : is_some (find (has text) ns) ≡ true = ap (λ (t : List ℕ). is_some (find (has t) ns)) (same text n.0 is) ∙ known in
      find-append (has text) ns (n ∷ []) ∙ or_known (find (has text) ns) (find (has text) (n ∷ [])) known')
  | inr is ↦ find-other ns n text is
]

-- a new string is found at its name
pub find-new : (ns : List Named) (n : Named) → is_some (find (has n.0) ns) ≡ false → (text : List ℕ) → bytes_eq text n.0 ≡ true → find (has text) (ns ++ n ∷ []) ≡ Some n
find-new ns n new text is =
    let none : find (has text) ns ≡ None = none_is (find (has text) ns) (ap (λ (t : List ℕ). is_some (find (has t) ns)) (same text n.0 is) ∙ new) in
    let last : find (has text) (n ∷ []) ≡ Some n = rw is refl in
    find-append (has text) ns (n ∷ []) ∙ ap (λ (o : Option Named). option_or o (find (has text) (n ∷ []))) none ∙ last

-- What a string exports, if a name exports f of its entry.
module _ (f : ℕ → Option Target) (text : List ℕ) where
  abbrev Exported : Type 0
  Exported = List ℕ × Target

  abbrev export : Named → Option Exported
  export n = option_map (λ target. (n.0, target)) (f n.1)

  abbrev search : List Named → Option Exported
  search ns = find (λ p. bytes_eq text p.0) (filter_map export ns)

  abbrev hit : Option Target → Bool → Named → Option Exported → Option Exported
  hit None b n rest = rest
  hit (Some target) b n rest = if b then Some (n.0, target) else rest

  search-cons : (n : Named) (ns : List Named) → search (n ∷ ns) ≡ hit (f n.1) (bytes_eq text n.0) n (search ns)
  search-cons n ns = by (f n.1)
    where
      by : (o : Option Target) → find (λ p. bytes_eq text p.0) (cons_option (option_map (λ target. (n.0, target)) o) (filter_map export ns)) ≡ hit o (bytes_eq text n.0) n (search ns)
      by None = refl
      by (Some target) = refl

  passes : (n : Named) (rest : Option Exported) (o : Option Target) → bytes_eq text n.0 ≡ false → hit o (bytes_eq text n.0) n rest ≡ rest
  passes n rest None is = refl
  passes n rest (Some target) is = rw is refl

  -- names other than the one that is searched for can be left out
  left_out : (x : Named) → bytes_eq text x.0 ≡ false → (ns : List Named) → search (filter (differs x) ns) ≡ search ns
  left_out x is [] = refl
  left_out x is (n ∷ ns) = elim (cases_Bool (bytes_eq x.0 n.0)) [
    | inl drops ↦
        (let fewer : filter (differs x) (n ∷ ns) ≡ filter (differs x) ns = rw drops refl in
        let other : bytes_eq text n.0 ≡ false = ap (bytes_eq text) (sym (same x.0 n.0 drops)) ∙ is in
        ap search fewer ∙ left_out x is ns ∙ sym (passes n (search ns) (f n.1) other) ∙ sym (search-cons n ns))
    | inr keeps ↦
        (let more : filter (differs x) (n ∷ ns) ≡ n ∷ filter (differs x) ns = rw keeps refl in
        ap search more ∙ search-cons n (filter (differs x) ns) ∙ ap (hit (f n.1) (bytes_eq text n.0) n) (left_out x is ns) ∙ sym (search-cons n ns))
  ]

  -- without the names equal to the one that is searched for nothing is found
  nothing_left : (x : Named) → bytes_eq text x.0 ≡ true → (ns : List Named) → search (filter (differs x) ns) ≡ None
  nothing_left x is [] = refl
  nothing_left x is (n ∷ ns) = elim (cases_Bool (bytes_eq x.0 n.0)) [
    | inl drops ↦ (let fewer : filter (differs x) (n ∷ ns) ≡ filter (differs x) ns = rw drops refl in ap search fewer ∙ nothing_left x is ns)
    | inr keeps ↦
        (let more : filter (differs x) (n ∷ ns) ≡ n ∷ filter (differs x) ns = rw keeps refl in
        let other : bytes_eq text n.0 ≡ false = ap (λ (t : List ℕ). bytes_eq t n.0) (same text x.0 is) ∙ keeps in
        ap search more ∙ search-cons n (filter (differs x) ns) ∙ passes n (search (filter (differs x) ns)) (f n.1) other ∙ nothing_left x is ns)
  ]

  hit_first : (n : Named) (o : Option Target) → bytes_eq text n.0 ≡ true → option_map (λ p. p.1) (hit o (bytes_eq text n.0) n None) ≡ o
  hit_first n None is = refl
  hit_first n (Some target) is = rw is refl

  -- the first name that is this string says what it exports
  pub found_first : (ns : List Named) → option_map (λ p. p.1) (search (first_of_each ns)) ≡ option_and_then (λ n. f n.1) (find (has text) ns)
  found_first [] = refl
  found_first (n ∷ ns) = elim (cases_Bool (bytes_eq text n.0)) [
    | inl is ↦
        (let found : find (has text) (n ∷ ns) ≡ Some n = rw is refl in
        ap (option_map (λ p. p.1)) (search-cons n (filter (differs n) (first_of_each ns)) ∙ ap (hit (f n.1) (bytes_eq text n.0) n) (nothing_left n is (first_of_each ns)))
        ∙ hit_first n (f n.1) is ∙ ap (option_and_then (λ (m : Named). f m.1)) (sym found))
    | inr is ↦
        (let found : find (has text) (n ∷ ns) ≡ find (has text) ns = rw is refl in
        ap (option_map (λ p. p.1)) (search-cons n (filter (differs n) (first_of_each ns)) ∙ passes n (search (filter (differs n) (first_of_each ns))) (f n.1) is ∙ left_out n is (first_of_each ns))
        ∙ found_first ns ∙ ap (option_and_then (λ (m : Named). f m.1)) (sym found))
  ]
