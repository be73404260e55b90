-- The images of a space in the order of their bases: which of them contains an address, and whether one would overlap another.
use Rattle.std.proofs.Common.{◌≡◌, ◌∙◌, ℕ, zero, suc, ◌+◌, ◌-◌, ◌<◌, ◌≤◌, Bool, true, false, cond, ◌&&◌, List, [], ◌∷◌, ◌++◌, length, map, get_or, refl, ap, sym, subst, arith, inl, inr, ltb, append_assoc, append-nil, length-append}
use Rattle.std.specs.Prelude.{Option, None, Some, nat_lt, slice_get, slice_set}
use Rattle.std.specs.List.{list_any, Contains}
use Rattle.std.specs.List.Sorted.{IsNonDecreasingBy}
use Rattle.std.proofs.lemmas.Bool.{cases_lt, cases_eq, le-ltb}
use Rattle.std.proofs.lemmas.List.{ext_get_or, get_or_default, get_or-map, get_or-set_same, get_or-set_other, length-map, length-set}
use Rattle.std.proofs.lemmas.Option.{slice_get-get_or}
use Rattle.std.proofs.lemmas.List.Elements.{Contains-append_cases, Contains-append_left, Contains-append_right}
use Rattle.std.proofs.lemmas.List.Sorted.{Contains-permutation, IsPermutation-sym}
use borrow.Author.Tests.{lt-ltb, eq-eqb, ne_eqb}
use Rattle.pe_ranges.specs.Ranges.{meets}
use Rattle.pe_set.specs.Placement.{Placement, no_placement, placement_at, others_than}
use Rattle.pe_space.specs.ByBase.{base_of, numbered, IsByBase, with_base, StandApart}
use Rattle.pe_space.specs.Content.{is_in, placed_from}
use Rattle.pe_space.specs.Ordered.{IsOrdered}
use Rattle.pe_space.specs.declared.by_base.NumberAt.{NumberAt}
use Rattle.pe_space.proofs.Lists.{none_of_others, one_of_others}
use Rattle.pe_space.proofs.SlotsAndFields.{is_in-true, true-is_in}

-- ---- the image that contains an address
-- image k of these contains the address
abbrev pub HoldsAt : List Placement → ℕ → ℕ → Type 0
HoldsAt ps a k = (k < length ps) × (is_in (placement_at ps k).base (placement_at ps k).size a ≡ true)

inside_step : (n : ℕ) (p : Placement) (ps : List Placement) (a j : ℕ) → (placed_from (n + 1) ps a ≡ Some j → (k : ℕ) × (j ≡ n + 1 + k) × HoldsAt ps a k)
    → (t : Bool) → is_in p.base p.size a ≡ t → cond t (Some n) (placed_from (n + 1) ps a) ≡ Some j → (k : ℕ) × (j ≡ n + k) × HoldsAt (p ∷ ps) a k
inside_step n p ps a j more true is h = (0, (let e : n ≡ j = cc in omega arith), (omega arith, is))
inside_step n p ps a j more false is h = let m = more h in (suc m.0, (let e = m.1 in omega arith), (let lt = m.2.0 in omega arith, m.2.1))

pub placed_inside : (n : ℕ) (ps : List Placement) (a j : ℕ) → placed_from n ps a ≡ Some j → (k : ℕ) × (j ≡ n + k) × HoldsAt ps a k
placed_inside n [] a j h = cc
placed_inside n (p ∷ ps) a j h = inside_step n p ps a j (placed_inside (n + 1) ps a j) (is_in p.base p.size a) refl h

some_step : (n : ℕ) (ps : List Placement) (a : ℕ) (t : Bool) → ((t ≡ false) → (j : ℕ) × (placed_from (n + 1) ps a ≡ Some j)) → (j : ℕ) × (cond t (Some n) (placed_from (n + 1) ps a) ≡ Some j)
some_step n ps a true more = (n, refl)
some_step n ps a false more = more refl

placed_some : (n : ℕ) (ps : List Placement) (a k : ℕ) → HoldsAt ps a k → (j : ℕ) × (placed_from n ps a ≡ Some j)
placed_some n [] a k h = absurd (let lt = h.0 in omega arith)
placed_some n (p ∷ ps) a zero h = some_step n ps a (is_in p.base p.size a) (λ no_hit. let is = h.1 in cc)
placed_some n (p ∷ ps) a (suc k) h = some_step n ps a (is_in p.base p.size a) (λ _. placed_some (n + 1) ps a k (let lt = h.0 in omega arith, h.1))

-- no two images contain the same address
pub placed_is : (ps : List Placement) (a j : ℕ) → StandApart ps → HoldsAt ps a j → placed_from 0 ps a ≡ Some j
placed_is ps a j stand here =
    let some = placed_some 0 ps a j here in
    let there = placed_inside 0 ps a some.0 some.1 in
    elim (cases_eq there.0 j) [
      | inl same ↦ some.1 ∙ ap (λ (n : ℕ). Some n) (let e = there.1 in omega arith)
      | inr ne ↦
          let one = is_in-true _ _ a here.1 in
          let other = is_in-true _ _ a there.2.1 in
          let a0 = one.0 in let a1 = one.1 in let b0 = other.0 in let b1 = other.1 in
          elim (stand.apart there.0 j there.2.0 here.0 ne) [ inl before ↦ absurd (omega arith) | inr after ↦ absurd (omega arith) ]
    ]

placed_none : (ps : List Placement) (a : ℕ) → ((k : ℕ) → HoldsAt ps a k → ⊥) → placed_from 0 ps a ≡ None
placed_none ps a never = by (placed_from 0 ps a) refl
  where
    by : (o : Option ℕ) → placed_from 0 ps a ≡ o → o ≡ None
    by None is = refl
    by (Some j) is = let held = placed_inside 0 ps a j is in absurd (never held.0 held.2)

-- ---- a search from the last of them back, for one that is not image i
get_or-before : {X : Type 0} (xs ys : List X) (k : ℕ) (d : X) → k < length xs → get_or (xs ++ ys) k d ≡ get_or xs k d
get_or-before [] ys k d lt = absurd (omega (arith, lt))
get_or-before (x ∷ xs) ys zero d lt = refl
get_or-before (x ∷ xs) ys (suc k) d lt = get_or-before xs ys k d (omega (arith, lt))

get_or-behind : {X : Type 0} (xs : List X) (y : X) (ys : List X) (d : X) → get_or (xs ++ y ∷ ys) (length xs) d ≡ y
get_or-behind [] y ys d = refl
get_or-behind (x ∷ xs) y ys d = get_or-behind xs y ys d

-- the images that are left, after which only image i comes
pub record AllButOwn (i : ℕ) (near left : List NumberAt) : Type 0 where
  pub behind : List NumberAt
  pub parts : near ≡ left ++ behind
  pub own : (at : NumberAt) → Contains behind at → at.number ≡ i

pub all_left : (i : ℕ) (near left : List NumberAt) → left ≡ near → AllButOwn i near left
all_left i near left is = record { behind = []; parts = sym is ∙ sym (append-nil left); own = λ at held. absurd (let lt = held.1 in omega (arith, lt)) }

pub left_parts : (i : ℕ) (near left rest : List NumberAt) (at : NumberAt) (so_far : AllButOwn i near left) → left ≡ rest ++ at ∷ [] → near ≡ rest ++ at ∷ so_far.behind
left_parts i near left rest at so_far is = so_far.parts ∙ ap (λ (l : List NumberAt). l ++ so_far.behind) is ∙ append_assoc rest (at ∷ []) so_far.behind

pub left_has : (i : ℕ) (near left rest : List NumberAt) (at : NumberAt) → AllButOwn i near left → left ≡ rest ++ at ∷ [] → Contains near at
left_has i near left rest at so_far is = subst (λ (l : List NumberAt). Contains l at) (sym (left_parts i near left rest at so_far is)) (Contains-append_right rest (at ∷ so_far.behind) at (0, omega arith, refl))

pub own_behind : (i : ℕ) (near left rest : List NumberAt) (at : NumberAt) → AllButOwn i near left → left ≡ rest ++ at ∷ [] → at.number ≡ i → AllButOwn i near rest
own_behind i near left rest at so_far is same = record {
  behind = at ∷ so_far.behind;
  parts = left_parts i near left rest at so_far is;
  own = own;
}
  where
    own : (x : NumberAt) → Contains (at ∷ so_far.behind) x → x.number ≡ i
    own x (zero, lt, here) = ap (λ (e : NumberAt). e.number) (sym here) ∙ same
    own x (suc k, lt, here) = so_far.own x (k, omega (arith, lt), here)

and_no : (b : Bool) → (b && false) ≡ false
and_no true = refl
and_no false = refl

-- ---- images in the order of their bases
-- those that begin at or before an address
pub record AreUpTo (order near : List NumberAt) (most : ℕ) : Type 0 where
  pub held : (at : NumberAt) → Contains near at → Contains order at × (at.base ≤ most)
  pub all : (at : NumberAt) → Contains order at → at.base ≤ most → Contains near at
  pub ascend : IsNonDecreasingBy base_of near

module _ (ps : List Placement) (order near : List NumberAt) (most : ℕ) (by_base : IsByBase ps order) (stand : StandApart ps) (up_to : AreUpTo order near most) where
  -- image k begins at or before it
  near_at : (k : ℕ) → k < length ps → (placement_at ps k).base ≤ most → Contains near (numbered ps k)
  near_at k lt low = up_to.all (numbered ps k) (by_base.all k lt) low

  -- if none begins at or before it, none contains the address
  pub none_near : length near ≡ 0 → placed_from 0 ps most ≡ None
  none_near empty = placed_none ps most (λ k held.
      let range = is_in-true _ _ most held.1 in
      let there = (near_at k held.0 range.0).1 in
      omega (arith, there, empty))

  -- facts about one of them
  pub record IsNear (at : NumberAt) : Type 0 where
    pub place : at.number < length ps
    pub base : (placement_at ps at.number).base ≡ at.base
    pub low : at.base ≤ most

  pub near_one : (at : NumberAt) → Contains near at → IsNear at
  near_one at held =
      let own = up_to.held at held in
      let it = by_base.own at own.0 in
      record { place = it.0; base = sym (ap base_of it.1); low = own.1 }

  -- an image that begins there or before, and not after this one, ends before this one, unless it is the same
  ends_before : (at : NumberAt) (n k q : ℕ) → IsNear at → n < length near → get_or near n at ≡ at → k < length ps → (k ≡ at.number → ⊥) → q ≤ n → get_or near q (numbered ps k) ≡ numbered ps k
      → (placement_at ps k).base + (placement_at ps k).size ≤ at.base
  ends_before at n k q is lt here below ne le there =
      let here_k : get_or near n (numbered ps k) ≡ at = get_or_default near n (numbered ps k) at lt ∙ here in
      let order : (placement_at ps k).base ≤ at.base = subst (λ (e : NumberAt). (placement_at ps k).base ≤ e.base) here_k (subst (λ (e : NumberAt). e.base ≤ (get_or near n (numbered ps k)).base) there (up_to.ascend q n (numbered ps k) le lt)) in
      let some = stand.some at.number is.place in
      let base = is.base in
      elim (stand.apart k at.number below is.place ne) [ inl before ↦ omega arith | inr after ↦ absurd (omega arith) ]

  -- the last of them contains the address, or none does
  pub last_holds : (at : NumberAt) (n : ℕ) → length near ≡ n + 1 → get_or near n at ≡ at → most < (placement_at ps at.number).base + (placement_at ps at.number).size → placed_from 0 ps most ≡ Some at.number
  last_holds at n count here high =
      let is = near_one at (n, omega (arith, count), here) in
      let low = is.low in
      let base = is.base in
      placed_is ps most at.number stand (is.place, true-is_in _ _ most (omega arith) high)

  pub last_misses : (at : NumberAt) (n : ℕ) → length near ≡ n + 1 → get_or near n at ≡ at → (placement_at ps at.number).base + (placement_at ps at.number).size ≤ most → placed_from 0 ps most ≡ None
  last_misses at n count here end = placed_none ps most (λ k held.
      let is = near_one at (n, omega (arith, count), here) in
      let range = is_in-true _ _ most held.1 in
      let high = range.1 in
      elim (cases_eq k at.number) [
        | inl same ↦ (let past : (placement_at ps k).base + (placement_at ps k).size ≤ most = rw same end in omega arith)
        | inr ne ↦
            let there = near_at k held.0 range.0 in
            let before = ends_before at n k there.0 is (omega (arith, count)) here held.0 ne (let lt = there.1 in omega (arith, count)) there.2 in
            let low = is.low in
            omega arith
      ])

  -- an image that would end at this address overlaps the last of the others that begin at or before it, or none
  module _ (i base size : ℕ) (some : 0 < size) (last : base + size ≡ most + 1) where
    abbrev test : Placement → Bool
    test other = meets base size other.base other.size

    met : (k : ℕ) → base < (placement_at ps k).base + (placement_at ps k).size → (placement_at ps k).base ≤ most → test (placement_at ps k) ≡ true
    met k one two = rw (lt-ltb base ((placement_at ps k).base + (placement_at ps k).size) one, lt-ltb (placement_at ps k).base (base + size) (omega arith)) refl

    past : (k : ℕ) → most < (placement_at ps k).base → test (placement_at ps k) ≡ false
    past k over = rw (le-ltb (placement_at ps k).base (base + size) (omega arith)) (and_no (nat_lt base ((placement_at ps k).base + (placement_at ps k).size)))

    before : (k : ℕ) → (placement_at ps k).base + (placement_at ps k).size ≤ base → test (placement_at ps k) ≡ false
    before k le = rw (le-ltb base ((placement_at ps k).base + (placement_at ps k).size) le) refl

    -- if the others that begin at or before it end at or before its base, it overlaps none
    none_overlaps : ((k : ℕ) → k < length ps → (k ≡ i → ⊥) → (placement_at ps k).base ≤ most → (placement_at ps k).base + (placement_at ps k).size ≤ base) → list_any test (others_than i ps) ≡ false
    none_overlaps never = none_of_others test ps no_placement i (λ k lt ne. elim (cases_lt most (placement_at ps k).base) [
      | inl over ↦ past k over
      | inr by_then ↦ before k (never k lt ne by_then)
    ])

    module _ (behind : List NumberAt) (all_own : (at : NumberAt) → Contains behind at → at.number ≡ i) where
      pub other_found : (at : NumberAt) (rest : List NumberAt) → near ≡ rest ++ at ∷ behind → (at.number ≡ i → ⊥)
          → ltb base ((placement_at ps at.number).base + (placement_at ps at.number).size) ≡ list_any test (others_than i ps)
      other_found at rest parts other =
          let held : Contains near at = subst (λ (l : List NumberAt). Contains l at) (sym parts) (Contains-append_right rest (at ∷ behind) at (0, omega arith, refl)) in
          let is = near_one at held in
          let low = is.low in
          let at_base = is.base in
          elim (cases_lt base ((placement_at ps at.number).base + (placement_at ps at.number).size)) [
            | inl high ↦ lt-ltb _ _ high ∙ sym (one_of_others test ps no_placement i at.number is.place other (met at.number high (omega arith)))
            | inr end ↦ le-ltb _ _ end ∙ sym (none_overlaps (λ k lt ne by_then. elim (cases_eq k at.number) [
              | inl same ↦ rw same end
              | inr apart ↦
                  let there = near_at k lt by_then in
                  elim (Contains-append_cases rest (at ∷ behind) (numbered ps k) (subst (λ (l : List NumberAt). Contains l (numbered ps k)) parts there)) [
                    | inl early ↦
                        let count = ap length parts ∙ length-append rest (at ∷ behind) in
                        let here : get_or near (length rest) at ≡ at = ap (λ (l : List NumberAt). get_or l (length rest) at) parts ∙ get_or-behind rest at behind at in
                        let place : get_or near early.0 (numbered ps k) ≡ numbered ps k = ap (λ (l : List NumberAt). get_or l early.0 (numbered ps k)) parts ∙ get_or-before rest (at ∷ behind) early.0 (numbered ps k) early.1 ∙ early.2 in
                        let lt_rest = early.1 in
                        let first = ends_before at (length rest) k early.0 is (omega (arith, count)) here lt apart (omega arith) place in
                        omega arith
                    | inr (zero, at_lt, is_at) ↦ absurd (apart (ap (λ (e : NumberAt). e.number) (sym is_at)))
                    | inr (suc q, at_lt, is_at) ↦ absurd (ne (all_own (numbered ps k) (q, omega (arith, at_lt), is_at)))
                  ]
            ]))
          ]

      pub none_found : near ≡ behind → false ≡ list_any test (others_than i ps)
      none_found all = sym (none_overlaps (λ k lt ne by_then. absurd (ne (all_own (numbered ps k) (subst (λ (l : List NumberAt). Contains l (numbered ps k)) all (near_at k lt by_then))))))

-- the last element of a list
pub none_last : {X : Type 0} (xs : List X) → slice_get xs (length xs - 1) ≡ None → length xs ≡ 0
none_last [] is = refl
none_last (x ∷ xs) is = absurd (let some = slice_get-get_or (x ∷ xs) (length (x ∷ xs) - 1) x (omega arith) in cc)

-- ---- how that order is made
-- the numbers of the first k images
pub record AreFirst (ps : List Placement) (k : ℕ) (order : List NumberAt) : Type 0 where
  pub own : (at : NumberAt) → Contains order at → (at.number < k) × (at ≡ numbered ps at.number)
  pub all : (j : ℕ) → j < k → Contains order (numbered ps j)

pub first_none : (ps : List Placement) → AreFirst ps 0 []
first_none ps = record { own = λ at held. absurd (let lt = held.1 in omega arith); all = λ j lt. absurd (omega arith) }

pub first_more : (ps : List Placement) (k : ℕ) (xs : List NumberAt) (at : NumberAt) → AreFirst ps k xs → at ≡ numbered ps k → AreFirst ps (k + 1) (xs ++ at ∷ [])
first_more ps k xs at so_far is = record {
  own = λ x held. elim (Contains-append_cases xs (at ∷ []) x held) [
    | inl before ↦ (let it = so_far.own x before in (omega (arith, it.0), it.1))
    | inr last ↦
        (let same : at ≡ x = one_held at x last in
        let number : x.number ≡ k = ap (λ (e : NumberAt). e.number) (sym same ∙ is) in
        (omega (arith, number), sym same ∙ is ∙ ap (numbered ps) (sym number)))
  ];
  all = λ j lt. elim (cases_lt j k) [
    | inl below ↦ Contains-append_left xs (at ∷ []) (numbered ps j) (so_far.all j below)
    | inr over ↦
        (let here : j ≡ k = omega arith in
        Contains-append_right xs (at ∷ []) (numbered ps j) (0, omega arith, is ∙ ap (numbered ps) (sym here)))
  ];
}
  where
    one_held : (x y : NumberAt) → Contains (x ∷ []) y → x ≡ y
    one_held x y (zero, lt, same) = same
    one_held x y (suc k, lt, same) = absurd (omega (arith, lt))

pub first_all : (ps : List Placement) (xs ys : List NumberAt) → AreFirst ps (length ps) xs → IsOrdered base_of xs ys → IsByBase ps ys
first_all ps xs ys first ordered = record {
  own = λ at held. first.own at (Contains-permutation ys xs at (IsPermutation-sym xs ys ordered.same) held);
  all = λ j lt. Contains-permutation xs ys (numbered ps j) ordered.same (first.all j lt);
  ascend = ordered.ascend;
}

-- a list whose elements are changed one by one
pub record AreChanged {X : Type 0} (f : X → X) (xs ys : List X) (n : ℕ) : Type 0 where
  pub count : length ys ≡ length xs
  pub changed : (k : ℕ) (d : X) → k < n → get_or ys k d ≡ f (get_or xs k d)
  pub left : (k : ℕ) (d : X) → n ≤ k → get_or ys k d ≡ get_or xs k d

pub changed_more : {X : Type 0} (f : X → X) (xs ys new : List X) (n : ℕ) → AreChanged f xs ys n → length new ≡ length ys
    → ((d : X) → get_or new n d ≡ f (get_or ys n d)) → ((k : ℕ) (d : X) → (k ≡ n → ⊥) → get_or new k d ≡ get_or ys k d) → AreChanged f xs new (n + 1)
changed_more f xs ys new n so_far same here others = record {
  count = same ∙ so_far.count;
  changed = λ k d lt. elim (cases_eq k n) [
    | inl is ↦ ap (λ (i : ℕ). get_or new i d) is ∙ here d ∙ ap f (so_far.left n d (omega arith)) ∙ ap (λ (i : ℕ). f (get_or xs i d)) (sym is)
    | inr other ↦ others k d other ∙ so_far.changed k d (omega (arith, lt, other))
  ];
  left = λ k d le. others k d (λ is. omega (arith, le, is)) ∙ so_far.left k d (omega (arith, le));
}

pub changed_all : {X : Type 0} (f : X → X) (xs ys : List X) (n : ℕ) → AreChanged f xs ys n → length xs ≤ n → ys ≡ map f xs
changed_all f [] [] n so_far all = refl
changed_all f [] (y ∷ ys) n so_far all = absurd (let count = so_far.count in omega (arith, count))
changed_all f (x ∷ xs) ys n so_far all =
    let count = so_far.count in
    let whole = length-map (x ∷ xs) f in
    ext_get_or x ys (map f (x ∷ xs)) (omega (arith, count, whole)) (λ k lt. so_far.changed k x (omega (arith, lt, count, all)) ∙ sym (get_or-map f (x ∷ xs) k x x (omega (arith, lt, count))))

contains_map : {X Y : Type 0} (f : X → Y) (xs : List X) (x : X) → Contains xs x → Contains (map f xs) (f x)
contains_map f xs x (k, lt, is) = (k, omega (arith, lt, length-map xs f), get_or-map f xs k x (f x) lt ∙ ap f is)

contains_unmap : {X Y : Type 0} (f : X → Y) (xs : List X) (y : Y) → Contains (map f xs) y → (x : X) × Contains xs x × (f x ≡ y)
contains_unmap f [] y (k, lt, is) = absurd (omega (arith, lt))
contains_unmap f (x ∷ xs) y (zero, lt, is) = (x, (0, omega arith, refl), is)
contains_unmap f (x ∷ xs) y (suc k, lt, is) =
    let more = contains_unmap f xs y (k, omega (arith, lt), is) in
    let small = more.1.1 in
    (more.0, (suc more.1.0, omega arith, more.1.2), more.2)

-- image i at another base
pub reordered : (ps : List Placement) (order moved after : List NumberAt) (i base : ℕ) → i < length ps → IsByBase ps order → moved ≡ map (with_base i base) order → IsOrdered base_of moved after
    → IsByBase (slice_set ps i (record (placement_at ps i) { base = base })) after
reordered ps order moved after i base lt by_base is ordered = record {
  own = own;
  all = all;
  ascend = ordered.ascend;
}
  where
    p : Placement
    p = record (placement_at ps i) { base = base }

    count : length (slice_set ps i p) ≡ length ps
    count = length-set ps i p

    here : placement_at (slice_set ps i p) i ≡ p
    here = get_or-set_same ps i p no_placement lt

    there : (j : ℕ) → (j ≡ i → ⊥) → placement_at (slice_set ps i p) j ≡ placement_at ps j
    there j ne = get_or-set_other ps i j p no_placement ne

    own : (at : NumberAt) → Contains after at → (at.number < length (slice_set ps i p)) × (at ≡ numbered (slice_set ps i p) at.number)
    own at held =
        let listed : Contains (map (with_base i base) order) at = subst (λ (l : List NumberAt). Contains l at) is (Contains-permutation after moved at (IsPermutation-sym moved after ordered.same) held) in
        let from = contains_unmap (with_base i base) order at listed in
        let was = by_base.own from.0 from.1 in
        elim (cases_eq from.0.number i) [
          | inl same ↦
              (let now : record from.0 { base = base } ≡ at = sym (ap (λ (b : Bool). cond b (record from.0 { base = base }) from.0) (eq-eqb from.0.number i same)) ∙ from.2 in
              let number : at.number ≡ i = ap (λ (e : NumberAt). e.number) (sym now) ∙ same in
              (omega (arith, number, count, lt), sym now ∙ ap (λ (n : ℕ). record { base = base; number = n }) same ∙ sym (ap (λ (n : ℕ). numbered (slice_set ps i p) n) number ∙ ap (λ (q : Placement). record { base = q.base; number = i }) here)))
          | inr other ↦
              (let now : from.0 ≡ at = sym (ap (λ (b : Bool). cond b (record from.0 { base = base }) from.0) (ne_eqb from.0.number i other)) ∙ from.2 in
              subst (λ (e : NumberAt). (e.number < length (slice_set ps i p)) × (e ≡ numbered (slice_set ps i p) e.number)) now
              (omega (arith, was.0, count), was.1 ∙ ap (λ (q : Placement). record { base = q.base; number = from.0.number }) (sym (there from.0.number other))))
        ]

    all : (j : ℕ) → j < length (slice_set ps i p) → Contains after (numbered (slice_set ps i p) j)
    all j small =
        let listed : Contains (map (with_base i base) order) (with_base i base (numbered ps j)) = contains_map (with_base i base) order (numbered ps j) (by_base.all j (omega (arith, small, count))) in
        let put : with_base i base (numbered ps j) ≡ numbered (slice_set ps i p) j = elim (cases_eq j i) [
          | inl same ↦
              ap (λ (b : Bool). cond b (record { base = base; number = j }) (numbered ps j)) (eq-eqb j i same)
              ∙ sym (ap (λ (q : Placement). record { base = q.base; number = j }) (ap (placement_at (slice_set ps i p)) same ∙ here))
          | inr other ↦
              ap (λ (b : Bool). cond b (record { base = base; number = j }) (numbered ps j)) (ne_eqb j i other)
              ∙ sym (ap (λ (q : Placement). record { base = q.base; number = j }) (there j other))
        ] in
        Contains-permutation moved after (numbered (slice_set ps i p) j) ordered.same (subst (λ (l : List NumberAt). Contains l (numbered (slice_set ps i p) j)) (sym is) (subst (Contains (map (with_base i base) order)) put listed))
