-- Strings that ascend: one that comes before a string is not equal to it, and a binary search finds a string if it is there.
use Rattle.std.proofs.Common.{◌≡◌, ℕ, zero, suc, ◌-◌, ◌<◌, ◌≤◌, Bool, true, false, List, [], ◌∷◌, ◌++◌, length, get_or, Option, Some, None, refl, sym, ap, subst, ◌∙◌, inl, inr, arith}
use Rattle.std.specs.Borrow.{Bor}
use Rattle.std.specs.Prelude.{All, is_some, ◌||◌, if◌then◌else◌}
use Rattle.std.specs.Str.{bytes_eq}
use Rattle.std.specs.Ordering.{nat_cmp, is_eq, is_lt, ordering_reverse, ordering_index}
use Rattle.std.specs.declared.cmp.Ordering.{Ordering}
use Rattle.std.specs.declared.cmp.Ordering.TheVariants.{Less, Equal, Greater}
use Rattle.std.specs.Cmp.Lexicographic.{slice_cmp}
use Rattle.std.specs.List.Sorted.{IsNonDecreasingBy}
use Rattle.std.proofs.lemmas.Bool.{cases_Bool, cases_eq, cases_lt}
use Rattle.std.proofs.lemmas.Cmp.{nat_list_cmp_total}
use Rattle.std.proofs.lemmas.Map.Text.{is_eq-slice_cmp}
use Rattle.std.proofs.lemmas.Slice.Eq.{bytes_eq-Decides}
use Rattle.pe_tables.specs.TextMap.{IsBefore, TextsAscend, found}

abbrev compare : List ℕ → List ℕ → Ordering
compare a b = slice_cmp nat_cmp a b

-- the order of two strings, reversed
pub reversed : (a b : List ℕ) (o : Ordering) → compare a b ≡ o → compare b a ≡ ordering_reverse o
reversed a b o is = nat_list_cmp_total.antisymm b a ∙ ap ordering_reverse is

pub differs_before : (a b : List ℕ) → compare a b ≡ Less → bytes_eq b a ≡ false
differs_before a b before = sym (is_eq-slice_cmp b a) ∙ ap is_eq (reversed a b Less before)

pub differs_behind : (a b : List ℕ) → compare a b ≡ Greater → bytes_eq b a ≡ false
differs_behind a b behind = sym (is_eq-slice_cmp b a) ∙ ap is_eq (reversed a b Greater behind)

pub same_texts : (a b : List ℕ) → compare a b ≡ Equal → a ≡ b
same_texts a b same = (bytes_eq-Decides a b).0 (sym (is_eq-slice_cmp a b) ∙ ap is_eq same)

pub searched-place : (a b : List ℕ) → compare a b ≡ Equal → bytes_eq b a ≡ true
searched-place a b same = (bytes_eq-Decides b a).1 (sym (same_texts a b same))

less_only : (o : Ordering) → is_lt o ≡ true → o ≡ Less
less_only Less is = refl
less_only Equal is = absurd cc
less_only Greater is = absurd cc

pub before_by : (a b : List ℕ) (r : Bool) → r ≡ is_lt (compare a b) → r ≡ true → IsBefore a b
before_by a b r answer is = less_only (compare a b) (sym answer ∙ is)

pub answer_by : (a b : List ℕ) (r : Bool) → r ≡ is_lt (compare a b) → IsBefore a b → r ≡ true
answer_by a b r answer before = answer ∙ ap is_lt before

abbrev Entry : Type 0 → Type 0
Entry X = Bor (List ℕ) × X

module _ {X : Type 0} where
  -- if no entry has the string
  pub found-none : (text : List ℕ) (entries : List (Entry X)) → ((k : ℕ) (d : Entry X) → k < length entries → bytes_eq text (get_or entries k d).0.now ≡ false) → found text entries ≡ None
  found-none text [] none = refl
  found-none text (e ∷ es) none = rw (none 0 e (omega arith)) (found-none text es (λ k d lt. none (suc k) d (omega arith)))

  -- if entry k is the first that has it
  pub found-at : (text : List ℕ) (entries : List (Entry X)) (k : ℕ) (d : Entry X) → k < length entries → bytes_eq text (get_or entries k d).0.now ≡ true
      → ((j : ℕ) → j < k → bytes_eq text (get_or entries j d).0.now ≡ false) → found text entries ≡ Some (get_or entries k d).1
  found-at text [] k d lt is before = absurd (omega arith)
  found-at text (e ∷ es) zero d lt is before = rw is refl
  found-at text (e ∷ es) (suc k) d lt is before = rw (before 0 (omega arith)) (found-at text es k d (omega arith) is (λ j below. before (suc j) (omega arith)))

  -- what entries have for a string, or else others
  abbrev first_of : Option X → Option X → Option X
  first_of (Some x) o = Some x
  first_of None o = o

  step : (text : List ℕ) (e : Entry X) (es others : List (Entry X)) (b : Bool) → bytes_eq text e.0.now ≡ b → found text (es ++ others) ≡ first_of (found text es) (found text others)
      → found text (e ∷ (es ++ others)) ≡ first_of (found text (e ∷ es)) (found text others)
  step text e es others true is rest = rw is refl
  step text e es others false is rest = rw is rest

  found-append : (text : List ℕ) (entries others : List (Entry X)) → found text (entries ++ others) ≡ first_of (found text entries) (found text others)
  found-append text [] others = refl
  found-append text (e ∷ es) others = step text e es others (bytes_eq text e.0.now) refl (found-append text es others)

  pub found-behind : (text : List ℕ) (entries others : List (Entry X)) → found text entries ≡ None → found text (entries ++ others) ≡ found text others
  found-behind text entries others none = found-append text entries others ∙ ap (λ (o : Option X). first_of o (found text others)) none

  pub found-before : (text : List ℕ) (entries others : List (Entry X)) (x : X) → found text entries ≡ Some x → found text (entries ++ others) ≡ Some x
  found-before text entries others x some = found-append text entries others ∙ ap (λ (o : Option X). first_of o (found text others)) some

  either : (o p : Option X) → is_some (first_of o p) ≡ (is_some o || is_some p)
  either None p = refl
  either (Some x) p = refl

  -- a string is among entries and others if it is among either
  pub found-either : (text : List ℕ) (entries others : List (Entry X)) → is_some (found text (entries ++ others)) ≡ (is_some (found text entries) || is_some (found text others))
  found-either text entries others = ap is_some (found-append text entries others) ∙ either (found text entries) (found text others)

  lacks_by : (o p : Option X) → first_of o p ≡ None → o ≡ None
  lacks_by None p none = refl
  lacks_by (Some x) p none = none

  pub run_lacks : (text : List ℕ) (entries others : List (Entry X)) → found text (entries ++ others) ≡ None → found text entries ≡ None
  run_lacks text entries others none = lacks_by (found text entries) (found text others) (sym (found-append text entries others) ∙ none)

  -- the last string of a run comes after all others
  pub all_stand_before : (run : List (Entry X)) (last : Entry X) (text : List ℕ) → TextsAscend run → 0 < length run → ((d : Entry X) → last ≡ get_or run (length run - 1) d) → IsBefore last.0.now text → All (λ entry. IsBefore entry.0.now text) run
  all_stand_before run last text ascend some is before = λ k d lt.
      let end : IsBefore (get_or run (length run - 1) d).0.now text = rw (is d) at before in
      elim (cases_eq k (length run - 1)) [
        | inl same ↦ subst (λ (i : ℕ). IsBefore (get_or run i d).0.now text) (sym same) end
        | inr other ↦
            nat_list_cmp_total.trans (get_or run k d).0.now (get_or run (length run - 1) d).0.now text (ascend k (length run - 1) d (omega arith) (omega arith)) end
      ]

  pub last_stands_before : (run : List (Entry X)) (last : Entry X) (text : List ℕ) → 0 < length run → ((d : Entry X) → last ≡ get_or run (length run - 1) d) → All (λ entry. IsBefore entry.0.now text) run → IsBefore last.0.now text
  last_stands_before run last text some is all =
      let before : IsBefore (get_or run (length run - 1) last).0.now text = all (length run - 1) last (omega arith) in
      rw (← is last) at before

  -- a string after a whole run is new to it
  pub found-new : (run : List (Entry X)) (text : List ℕ) → All (λ entry. IsBefore entry.0.now text) run → found text run ≡ None
  found-new run text all = found-none text run (λ k d lt. differs_before (get_or run k d).0.now text (all k d lt))

  abbrev against : List ℕ → Entry X → Ordering
  against text entry = compare entry.0.now text

  rising : (text : List ℕ) (a b : Entry X) (o : Ordering) → against text a ≡ o → IsBefore a.0.now b.0.now → ordering_index (against text a) ≤ ordering_index (against text b)
  rising text a b Less is before = rw is (omega arith)
  rising text a b Equal is before =
      let same : a.0.now ≡ text = same_texts a.0.now text is in
      let behind : against text b ≡ Greater = reversed text b.0.now Less (subst (λ (t : List ℕ). IsBefore t b.0.now) same before) in
      rw (is, behind) (omega arith)
  rising text a b Greater is before =
      let behind : against text b ≡ Greater = reversed text b.0.now Less (nat_list_cmp_total.trans text a.0.now b.0.now (reversed a.0.now text Greater is) before) in
      rw (is, behind) (omega arith)

  pub against_rises : (run : List (Entry X)) (text : List ℕ) → TextsAscend run → IsNonDecreasingBy (λ entry. ordering_index (against text entry)) run
  against_rises run text ascend = λ i j d le lt. elim (cases_lt i j) [
    | inl less ↦ rising text (get_or run i d) (get_or run j d) (against text (get_or run i d)) refl (ascend i j d less lt)
    | inr not_less ↦ (let same : i ≡ j = omega arith in rw same (omega arith))
  ]

  -- what a binary search finds is what the string has
  pub searched-at : (run : List (Entry X)) (text : List ℕ) (k : ℕ) (d : Entry X) → TextsAscend run → k < length run → against text (get_or run k d) ≡ Equal → found text run ≡ Some (get_or run k d).1
  searched-at run text k d ascend lt is =
      let same : (get_or run k d).0.now ≡ text = same_texts (get_or run k d).0.now text is in
      found-at text run k d lt ((bytes_eq-Decides text (get_or run k d).0.now).1 (sym same))
      (λ j below. differs_before (get_or run j d).0.now text (subst (λ (t : List ℕ). IsBefore (get_or run j d).0.now t) same (ascend j k d below lt)))

  -- so is what is at its place
  pub place-found : (run : List (Entry X)) (text : List ℕ) (k : ℕ) (d : Entry X) → TextsAscend run → k < length run → bytes_eq text (get_or run k d).0.now ≡ true → found text run ≡ Some (get_or run k d).1
  place-found run text k d ascend lt is =
      let same : (get_or run k d).0.now ≡ text = sym ((bytes_eq-Decides text (get_or run k d).0.now).0 is) in
      found-at text run k d lt is
      (λ j below. differs_before (get_or run j d).0.now text (subst (λ (t : List ℕ). IsBefore (get_or run j d).0.now t) same (ascend j k d below lt)))

  pub searched-nowhere : (run : List (Entry X)) (text : List ℕ) (place : ℕ) → ((k : ℕ) (d : Entry X) → k < place → against text (get_or run k d) ≡ Less) → ((k : ℕ) (d : Entry X) → place ≤ k → k < length run → against text (get_or run k d) ≡ Greater) → found text run ≡ None
  searched-nowhere run text place before behind = found-none text run (λ k d lt. elim (cases_lt k place) [
    | inl less ↦ differs_before (get_or run k d).0.now text (before k d less)
    | inr not_less ↦ differs_behind (get_or run k d).0.now text (behind k d (omega arith) lt)
  ])

  module _ (run others : List (Entry X)) (k : Bor (List ℕ)) (v : X) (other : List ℕ) where
    abbrev Gained : List (Entry X) → List (Entry X) → Type 0
    Gained old new = found other new ≡ (if bytes_eq other k.now then Some v else found other old)

    same_text : bytes_eq other k.now ≡ true → other ≡ k.now
    same_text is = (bytes_eq-Decides other k.now).0 is

    -- a string that is new to a run continues it
    pub gained-push : found k.now run ≡ None → Gained (run ++ others) ((run ++ (k, v) ∷ []) ++ others)
    gained-push new_text = elim (cases_Bool (bytes_eq other k.now)) [
      | inl is ↦
          (let none : found other run ≡ None = ap (λ (t : List ℕ). found t run) (same_text is) ∙ new_text in
          let here : found other ((k, v) ∷ []) ≡ Some v = rw is refl in
          let some : found other ((run ++ (k, v) ∷ []) ++ others) ≡ Some v = found-before other (run ++ (k, v) ∷ []) others v (found-behind other run ((k, v) ∷ []) none ∙ here) in
          rw is some)
      | inr differs ↦
          (let nowhere : found other ((k, v) ∷ []) ≡ None = rw differs refl in
          let old : found other ((run ++ (k, v) ∷ []) ++ others) ≡ found other (run ++ others) = append_nothing run nowhere in
          rw differs old)
    ]
      where
        append_nothing : (run : List (Entry X)) → found other ((k, v) ∷ []) ≡ None → found other ((run ++ (k, v) ∷ []) ++ others) ≡ found other (run ++ others)
        append_nothing run nowhere =
            found-append other (run ++ (k, v) ∷ []) others
            ∙ ap (λ (o : Option X). first_of o (found other others)) (found-append other run ((k, v) ∷ []) ∙ ap (first_of (found other run)) nowhere ∙ or_none (found other run))
            ∙ sym (found-append other run others)
          where
            or_none : (o : Option X) → first_of o None ≡ o
            or_none None = refl
            or_none (Some x) = refl

    -- or is among the others
    pub gained-others : (new : List (Entry X)) → found k.now run ≡ None → Gained others new → Gained (run ++ others) (run ++ new)
    gained-others new new_text gained = elim (cases_Bool (bytes_eq other k.now)) [
      | inl is ↦
          (let none : found other run ≡ None = ap (λ (t : List ℕ). found t run) (same_text is) ∙ new_text in
          let some : found other new ≡ Some v = rw is at gained in
          let whole : found other (run ++ new) ≡ Some v = found-behind other run new none ∙ some in
          rw is whole)
      | inr differs ↦
          (let old : found other new ≡ found other others = rw differs at gained in
          let whole : found other (run ++ new) ≡ found other (run ++ others) = found-append other run new ∙ ap (first_of (found other run)) old ∙ sym (found-append other run others) in
          rw differs whole)
    ]
