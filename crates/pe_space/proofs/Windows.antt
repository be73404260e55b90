-- Numbers written over a window, as far as they are inside it.
use Rattle.std.proofs.Common.{◌≡◌, ℕ, zero, suc, ◌+◌, ◌-◌, ◌<◌, ◌≤◌, ◌⊎◌, Bool, true, false, cond, List, [], ◌∷◌, length, map, take, drop, get_or, refl, ap, ◌∙◌, sym, subst, arith, rules, inl, inr, length-append, length-drop}
use Rattle.std.specs.List.{range_with_len}
use Rattle.std.specs.Int.{bytes_low_first}
use Rattle.std.proofs.lemmas.List.{ext_get_or, get_or-take, get_or-drop, length-take-le, places}
use Rattle.std.proofs.lemmas.List.FromFn.{get_or-map-range_with_len, length-map-range_with_len}
use borrow.Rule.Slice.PartMut.{put_mid}
use Rattle.pe_space.specs.Number.{digit}
use Rattle.pe_space.specs.Content.{is_in}
use Rattle.pe_space.specs.Windows.{laid_on}
use Rattle.pe_tables.specs.Patched.{length-bytes_from, bytes_from-get}
use Rattle.pe_space.proofs.Written.{cases_in}
use Rattle.pe_space.proofs.SlotsAndFields.{true-is_in, is_in-true}

pub length-laid_on : (start place w v : ℕ) (xs : List ℕ) → length (laid_on start place w v xs) ≡ length xs
length-laid_on start place w v [] = refl
length-laid_on start place w v (x ∷ xs) = ap suc (length-laid_on (start + 1) place w v xs)

pub get_or-laid_on : (start place w v : ℕ) (xs : List ℕ) (k r : ℕ) → k < length xs → start + k ≡ r
    → get_or (laid_on start place w v xs) k 0 ≡ cond (is_in place w r) (digit v (r - place)) (get_or xs k 0)
get_or-laid_on start place w v [] k r lt e = absurd (omega arith)
get_or-laid_on start place w v (x ∷ xs) zero r lt e =
    let same : start ≡ r = omega arith in
    ap (λ (q : ℕ). cond (is_in place w q) (digit v (q - place)) x) same
get_or-laid_on start place w v (x ∷ xs) (suc k) r lt e = get_or-laid_on (start + 1) place w v xs k r (omega arith) (omega arith)

-- outside the range
not_in : (place w r : ℕ) → (r < place) ⊎ (place + w ≤ r) → is_in place w r ≡ false
not_in place w r out = elim (cases_bool (is_in place w r)) [
  | inl inside ↦
      let both = is_in-true place w r inside in
      let low = both.0 in
      let high = both.1 in
      elim out [ inl below ↦ absurd (omega arith) | inr above ↦ absurd (omega arith) ]
  | inr off ↦ off
]
  where
    cases_bool : (t : Bool) → (t ≡ true) ⊎ (t ≡ false)
    cases_bool true = inl refl
    cases_bool false = inr refl

pub laid_inside : (start place w v : ℕ) (xs : List ℕ) (k r : ℕ) → k < length xs → start + k ≡ r → place ≤ r → r < place + w
    → get_or (laid_on start place w v xs) k 0 ≡ digit v (r - place)
laid_inside start place w v xs k r lt e low high =
    get_or-laid_on start place w v xs k r lt e ∙ ap (λ (t : Bool). cond t (digit v (r - place)) (get_or xs k 0)) (true-is_in place w r low high)

pub laid_outside : (start place w v : ℕ) (xs : List ℕ) (k r : ℕ) → k < length xs → start + k ≡ r → (r < place) ⊎ (place + w ≤ r)
    → get_or (laid_on start place w v xs) k 0 ≡ get_or xs k 0
laid_outside start place w v xs k r lt e out =
    get_or-laid_on start place w v xs k r lt e ∙ ap (λ (t : Bool). cond t (digit v (r - place)) (get_or xs k 0)) (not_in place w r out)

-- no byte of the number is inside the window
pub laid_nowhere : (start place w v : ℕ) (xs : List ℕ) → ((k : ℕ) → k < length xs → (start + k < place) ⊎ (place + w ≤ start + k)) → xs ≡ laid_on start place w v xs
laid_nowhere start place w v xs off =
    ext_get_or 0 xs (laid_on start place w v xs) (sym (length-laid_on start place w v xs))
    (λ k lt. sym (laid_outside start place w v xs k (start + k) lt refl (off k lt)))

-- an element of a list, part of which is overwritten
mid_below : (a k : ℕ) (xs ys : List ℕ) (r : ℕ) → r < a → a + k ≤ length xs → length ys ≡ k → get_or (put_mid a k xs ys) r 0 ≡ get_or xs r 0
mid_below a k xs ys r below fits len = search (rules, places)

mid_above : (a k : ℕ) (xs ys : List ℕ) (r : ℕ) → a + k ≤ r → a + k ≤ length xs → length ys ≡ k → get_or (put_mid a k xs ys) r 0 ≡ get_or xs r 0
mid_above a k xs ys r above fits len = search (rules, places)

mid_at : (a k : ℕ) (xs ys : List ℕ) (j : ℕ) → j < k → a + k ≤ length xs → length ys ≡ k → get_or (put_mid a k xs ys) (a + j) 0 ≡ get_or ys j 0
mid_at a k xs ys j small fits len = search (rules, places)

length-mid : (a k : ℕ) (xs ys : List ℕ) → a + k ≤ length xs → length ys ≡ k → length (put_mid a k xs ys) ≡ length xs
length-mid a k xs ys fits len = omega (arith, length-append {A = ℕ}, length-drop {A = ℕ}, length-take-le a xs (omega arith))

-- the bytes of a number from `first` up to `end` are written
pub record IsCut (start place w n first end : ℕ) : Type 0 where
  pub some : first < end
  pub after_start : start ≤ first
  pub after_place : place ≤ first
  pub first_is : (first ≡ start) ⊎ (first ≡ place)
  pub before_end : end ≤ start + n
  pub in_number : end ≤ place + w
  pub end_is : (end ≡ start + n) ⊎ (end ≡ place + w)

pub laid_cut : (start place w v first end : ℕ) (xs ys : List ℕ) → w ≤ 8 → IsCut start place w (length xs) first end
    → ys ≡ take (end - place - (first - place)) (drop (first - place) (bytes_low_first 0 8 v))
    → put_mid (first - start) (end - start - (first - start)) xs ys ≡ laid_on start place w v xs
laid_cut start place w v first end xs ys narrow cut is =
    ext_get_or 0 (put_mid a n xs ys) (laid_on start place w v xs) (long ∙ sym (length-laid_on start place w v xs)) (λ k lt. each k (omega (arith, lt, long)))
  where
    a : ℕ
    a = first - start

    n : ℕ
    n = end - start - (first - start)

    fits : first - start + (end - start - (first - start)) ≤ length xs
    fits = let x = cut.some in let y = cut.after_start in let z = cut.before_end in omega arith

    count : length ys ≡ end - start - (first - start)
    count =
        let x = cut.some in let y = cut.after_start in let z = cut.after_place in let u = cut.in_number in
        let len = length-bytes_from 0 8 v in
        let rest = length-drop (first - place) (bytes_low_first 0 8 v) in
        ap length is ∙ length-take-le (end - place - (first - place)) (drop (first - place) (bytes_low_first 0 8 v)) (omega arith) ∙ omega arith

    long : length (put_mid (first - start) (end - start - (first - start)) xs ys) ≡ length xs
    long = length-mid (first - start) (end - start - (first - start)) xs ys fits count

    byte_at_place : (r : ℕ) → first ≤ r → r < end → get_or ys (r - first) 0 ≡ digit v (r - place)
    byte_at_place r low high =
        let y = cut.after_start in let z = cut.after_place in let u = cut.in_number in
        let e : first - place + (r - first) ≡ r - place = omega arith in
        let o : 0 + (r - place) ≡ r - place = omega arith in
        ap (λ (l : List ℕ). get_or l (r - first) 0) is
        ∙ get_or-take (end - place - (first - place)) (drop (first - place) (bytes_low_first 0 8 v)) (r - first) 0 (omega arith)
        ∙ get_or-drop (first - place) (bytes_low_first 0 8 v) (r - first) 0
        ∙ ap (λ (q : ℕ). get_or (bytes_low_first 0 8 v) q 0) e
        ∙ bytes_from-get 0 8 v (r - place) (omega arith)
        ∙ ap (digit v) o

    below : (k : ℕ) → k < length xs → start + k < first → (start + k < place) ⊎ (place + w ≤ start + k)
    below k lt low = elim cut.first_is [ inl e ↦ absurd (omega arith) | inr e ↦ inl (omega arith) ]

    above : (k : ℕ) → k < length xs → end ≤ start + k → (start + k < place) ⊎ (place + w ≤ start + k)
    above k lt high = elim cut.end_is [ inl e ↦ absurd (omega arith) | inr e ↦ inr (omega arith) ]

    each : (k : ℕ) → k < length xs → get_or (put_mid (first - start) (end - start - (first - start)) xs ys) k 0 ≡ get_or (laid_on start place w v xs) k 0
    each k lt =
        let x = cut.some in let y = cut.after_start in let z = cut.after_place in let u = cut.in_number in
        elim (cases_in first (end - first) (start + k)) [
          | inl inside ↦
              let low = inside.0 in
              let high = inside.1 in
              let at : first - start + (start + k - first) ≡ k = omega arith in
              ap (λ (q : ℕ). get_or (put_mid (first - start) (end - start - (first - start)) xs ys) q 0) (sym at)
              ∙ mid_at (first - start) (end - start - (first - start)) xs ys (start + k - first) (omega arith) fits count
              ∙ byte_at_place (start + k) low (omega arith)
              ∙ sym (laid_inside start place w v xs k (start + k) lt refl (omega arith) (omega arith))
          | inr (inl low) ↦
              mid_below (first - start) (end - start - (first - start)) xs ys k (omega arith) fits count
              ∙ sym (laid_outside start place w v xs k (start + k) lt refl (below k lt low))
          | inr (inr high) ↦
              mid_above (first - start) (end - start - (first - start)) xs ys k (omega arith) fits count
              ∙ sym (laid_outside start place w v xs k (start + k) lt refl (above k lt (omega arith)))
        ]

-- ---- a window over which elements are written in sequence
abbrev pub AnyOf : {X : Type 0} → (X → Bool) → List X → Type 0
AnyOf p [] = ⊥
AnyOf p (x ∷ xs) = (p x ≡ true) ⊎ AnyOf p xs

-- each byte is right, or in an element that is still to be written
abbrev pub Still : {X : Type 0} → (ℕ → ℕ) → (ℕ → X → Bool) → ℕ → List X → List ℕ → Type 0
Still T covers start xs window = (k : ℕ) → k < length window → (get_or window k 0 ≡ T (start + k)) ⊎ AnyOf (covers (start + k)) xs

pub still_more : {X : Type 0} (T : ℕ → ℕ) (covers : ℕ → X → Bool) (start place w v : ℕ) (x : X) (xs : List X) (window : List ℕ)
    → ((r : ℕ) → covers r x ≡ true → (place ≤ r) × (r < place + w))
    → ((r : ℕ) → place ≤ r → r < place + w → T r ≡ digit v (r - place))
    → Still T covers start (x ∷ xs) window → Still T covers start xs (laid_on start place w v window)
still_more T covers start place w v x xs window held wanted still k short =
    let lt : k < length window = omega (arith, short, length-laid_on start place w v window) in
    elim (cases_in place w (start + k)) [
      | inl inside ↦ inl (laid_inside start place w v window k (start + k) lt refl inside.0 inside.1 ∙ sym (wanted (start + k) inside.0 inside.1))
      | inr out ↦ elim (still k lt) [
        | inl right ↦ inl (laid_outside start place w v window k (start + k) lt refl out ∙ right)
        | inr (inl here) ↦
            let both = held (start + k) here in
            let low = both.0 in
            let high = both.1 in
            elim out [ inl below ↦ absurd (omega arith) | inr above ↦ absurd (omega arith) ]
        | inr (inr later) ↦ inr later
      ]
    ]

-- nothing is left
pub still_none : {X : Type 0} (T : ℕ → ℕ) (covers : ℕ → X → Bool) (start n : ℕ) (xs : List X) (window : List ℕ) → xs ≡ [] → length window ≡ n
    → Still T covers start xs window → window ≡ map T (range_with_len start n)
still_none T covers start n xs window none len still =
    ext_get_or 0 window (map T (range_with_len start n)) (len ∙ sym (length-map-range_with_len T start n))
    (λ k lt. elim (subst (λ (l : List _). (get_or window k 0 ≡ T (start + k)) ⊎ AnyOf (covers (start + k)) l) none (still k lt)) [
      | inl right ↦ right ∙ sym (get_or-map-range_with_len T start n k (start + k) 0 (omega arith) refl)
      | inr never ↦ absurd never
    ])
