-- A name that is longer than each name of a set matches none, and neither does a beginning of it that is longer.
use Rattle.std.proofs.Common.{◌≡◌, ◌∙◌, ℕ, ◌<◌, ◌≤◌, false, List, [], ◌∷◌, ◌++◌, length, get_or, take, None, refl, sym, ap, arith, inl, inr, length-take}
use Rattle.std.specs.Prelude.{◌==◌, max, position}
use Rattle.std.specs.List.{list_any}
use Rattle.std.specs.Char.{to_ascii_lowercase}
use Rattle.std.specs.Str.{bytes_eq, str_to_ascii_lowercase}
use Rattle.std.proofs.lemmas.Bool.{cases_Bool, cases_lt}
use Rattle.std.proofs.lemmas.List.{length-append, length-map, take_all}
use Rattle.std.proofs.lemmas.List.Elements.{All-append, All-cons, All-nil}
use Rattle.std.proofs.lemmas.Slice.Eq.{bytes_eq-Decides}
use Rattle.pe_layout.proofs.Finding.{none_passes}
use Rattle.pe_set.specs.Set.{forwarded_name}
use Rattle.pe_set.specs.NameLengths.{AreWithin}
use Rattle.pe_set.specs.NamesView.{FoundAlike}

-- one more name
pub within_more : (longest : ℕ) (names : List (List ℕ)) (name : List ℕ) → AreWithin longest names → AreWithin (max longest (length name)) (names ++ name ∷ [])
within_more longest names name within =
    let later : ℕ = max longest (length name) in
    All-append (λ (n : List ℕ). length n ≤ later) names (name ∷ [])
    (λ k d lt. let le = within k d lt in omega (arith, le)) (All-cons (λ (n : List ℕ). length n ≤ later) name [] (omega arith) (All-nil _))

-- `.dll` does not shorten the name of a forwarder's module
forwarded_length : (text : List ℕ) → length text ≤ length (forwarded_name text)
forwarded_length text = elim (cases_Bool (list_any (λ (byte : ℕ). byte == 46) text)) [
  | inl dot ↦ (let is : forwarded_name text ≡ text = rw dot refl in rw is (omega arith))
  | inr none ↦
      (let is : forwarded_name text ≡ text ++ 46 ∷ 100 ∷ 108 ∷ 108 ∷ [] = rw none refl in
      let size = length-append text (46 ∷ 100 ∷ 108 ∷ 108 ∷ []) in
      rw is (omega (arith, size)))
]

module _ (longest : ℕ) (names : List (List ℕ)) (within : AreWithin longest names) where
  other_length : (text : List ℕ) → longest < length text → (k : ℕ) → k < length names → bytes_eq text (get_or names k text) ≡ false
  other_length text long k lt = elim (cases_Bool (bytes_eq text (get_or names k text))) [
    | inl same ↦
        (let is = ap (λ (bytes : List ℕ). length bytes) ((bytes_eq-Decides text (get_or names k text)).0 same) in
        let le = within k text lt in
        absurd (omega (arith, is, le, long)))
    | inr other ↦ other
  ]

  -- a string that is longer is none of the names
  pub too_long : (text : List ℕ) → longest < length text → position (λ name. bytes_eq text name) names ≡ None
  too_long text long = (none_passes (λ (name : List ℕ). bytes_eq text name) names text (other_length text long)).1

  -- two strings that are longer
  pub both_long : (text other : List ℕ) → longest < length text → longest < length other → FoundAlike names text other
  both_long text other long too = too_long text long ∙ sym (too_long other too)

  -- the beginning of a string, of one byte more than the names have
  pub beginning_alike : (text : List ℕ) (count : ℕ) → longest < count → FoundAlike names (str_to_ascii_lowercase (take count text)) (str_to_ascii_lowercase text)
  beginning_alike text count more = elim (cases_lt longest (length text)) [
    | inl long ↦
        both_long (str_to_ascii_lowercase (take count text)) (str_to_ascii_lowercase text)
        (let size = length-map (take count text) to_ascii_lowercase in omega (arith, size, length-take {A = ℕ}, long, more))
        (let size = length-map text to_ascii_lowercase in omega (arith, size, long))
    | inr short ↦ ap (λ (bytes : List ℕ). position (λ name. bytes_eq (str_to_ascii_lowercase bytes) name) names) (take_all count text (omega (arith, short, more)))
  ]

  -- that of the name of a forwarder's module
  pub forwarded_alike : (text : List ℕ) (count : ℕ) → longest < count → FoundAlike names (str_to_ascii_lowercase (forwarded_name (take count text))) (str_to_ascii_lowercase (forwarded_name text))
  forwarded_alike text count more = elim (cases_lt longest (length text)) [
    | inl long ↦
        both_long (str_to_ascii_lowercase (forwarded_name (take count text))) (str_to_ascii_lowercase (forwarded_name text))
        (let size = length-map (forwarded_name (take count text)) to_ascii_lowercase in let least = forwarded_length (take count text) in omega (arith, size, least, length-take {A = ℕ}, long, more))
        (let size = length-map (forwarded_name text) to_ascii_lowercase in let least = forwarded_length text in omega (arith, size, least, long))
    | inr short ↦ ap (λ (bytes : List ℕ). position (λ name. bytes_eq (str_to_ascii_lowercase (forwarded_name bytes)) name) names) (take_all count text (omega (arith, short, more)))
  ]
