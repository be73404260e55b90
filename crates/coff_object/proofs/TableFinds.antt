-- The string table finds its strings, and still does with one more.
use Rattle.std.proofs.Common.{◌≡◌, ℕ, suc, ◌+◌, ◌-◌, ◌<◌, ◌≤◌, true, false, List, [], ◌∷◌, ◌++◌, length, get_or, ◌⊎◌, Option, Some, None, refl, sym, ap, subst, ◌∙◌, arith, length-append, inl, inr}
use Rattle.std.specs.Prelude.{slice_get, slice_set, IsSome, if◌then◌else◌, ◌||◌}
use Rattle.std.specs.Borrow.{Bor}
use Rattle.std.specs.Str.{bytes_eq}
use Rattle.std.specs.BTreeMap.{BTreeMap, Updates}
use Rattle.std.proofs.lemmas.Bool.{cases_Bool, true≢false, or_cases}
use Rattle.std.proofs.lemmas.Bool.Decides.{eqb_tells}
use Rattle.std.proofs.lemmas.List.{length-set, get_or-set_same, get_or-set_other}
use Rattle.std.proofs.lemmas.List.Folds.{list_any-append}
use Rattle.std.proofs.lemmas.Option.{same_Some, none-some, slice_get_within, slice_get-get_or, get_or_from_slice_get}
use Rattle.coff_read.specs.Strings.{is_among, offset_of, string_bytes}
use Rattle.coff_object.specs.Slots.{Entry, texts_of, base, offset_at, held, IsOpen, IsUntold, IsOther}
use Rattle.coff_object.specs.StringTableView.{IsTable, counted}
use Rattle.coff_object.proofs.TextOrder.{Key, compare, held_after}
use Rattle.coff_object.proofs.StringTable.{same_bytes, equal_bytes}
use Rattle.coff_object.proofs.Offsets.{offset-kept, offset-new, bytes-more}
use Rattle.coff_object.proofs.MoreTexts.{texts_more, get_new, get_more, among_at, hit, told_kept}
use Rattle.coff_object.proofs.Telling.{told}

-- the first slot of a string depends on the slots only by how many they are
pub base_same : (slots other : List ℕ) (text : List ℕ) → length other ≡ length slots → base other text ≡ base slots text
unfolding base
base_same slots other text len = rw len refl

some_of : {A : Type 0} (x : A) (o : Option A) → o ≡ Some x → IsSome o
some_of x o is = rw is refl

module _ (entries : List Entry) (slots : List ℕ) (others : BTreeMap Key ℕ) (size : ℕ) (table : IsTable entries slots others size) where
  abbrev texts : List (List ℕ)
  texts = texts_of entries

  abbrev Answer : List ℕ → Option ℕ
  Answer text = if is_among text texts then Some (counted (offset_of texts text)) else None

  -- an offset found by a slot is the string's
  pub slot_answers : (text : List ℕ) (slot offset : ℕ) → offset_at entries text slot ≡ Some offset → Some offset ≡ Answer text
  slot_answers text slot offset is =
      let h = hit entries text slot offset table.offsets_are is in
      rw h.0 (ap (λ (n : ℕ). Some n) h.1)

  -- the others have every string that no slot names
  pub others_answer : (text : List ℕ) → IsUntold entries slots text → held others text ≡ Answer text
  others_answer text untold = by (held others text) refl
    where
      by : (o : Option ℕ) → held others text ≡ o → o ≡ Answer text
      by (Some offset) is =
          let h = table.others_are text offset is in
          rw h.0 (ap (λ (n : ℕ). Some n) h.1)
      by None is = elim (cases_Bool (is_among text texts)) [
        | inl there ↦
            (let other = (table.found text there untold).told in
            absurd (true≢false (sym (subst (λ (o : Option ℕ). IsSome o) is other))))
        | inr missing ↦ rw missing refl
      ]

  -- ---- one more string
  module _ (slots' : List ℕ) (others' : BTreeMap Key ℕ) (size' : ℕ) (t : Bor (List ℕ)) (new : is_among t.now texts ≡ false) (sum : size' ≡ counted (counted (size + length t.now) + 1))
      (len : length slots' ≡ length slots) (kept : (j : ℕ) → (get_or slots' j 0 ≡ get_or slots j 0) ⊎ (get_or slots j 0 ≡ 0)) (closes : (j : ℕ) → slice_get slots' j ≡ Some 0 → slice_get slots j ≡ Some 0)
      (others_kept : (text : List ℕ) (offset : ℕ) → held others text ≡ Some offset → is_among text texts ≡ true → held others' text ≡ Some offset)
      (others_more : (text : List ℕ) (offset : ℕ) → held others' text ≡ Some offset → (held others text ≡ Some offset) ⊎ ((t.now ≡ text) × (size ≡ offset)))
      (itself : IsUntold (entries ++ (t, size) ∷ []) slots' t.now → IsOther (entries ++ (t, size) ∷ []) slots' others' t.now) where
    abbrev more : List Entry
    more = entries ++ (t, size) ∷ []

    among_more : (text : List ℕ) → is_among text (texts_of more) ≡ (is_among text texts || (bytes_eq text t.now || false))
    among_more text = ap (is_among text) (texts_more entries (t, size)) ∙ list_any-append (bytes_eq text) texts (t.now ∷ [])

    among_still : (text : List ℕ) → is_among text texts ≡ true → is_among text (texts_of more) ≡ true
    among_still text there = among_more text ∙ rw there refl

    among_itself : is_among t.now (texts_of more) ≡ true
    among_itself = among_more t.now ∙ rw (new, equal_bytes t.now) refl

    offset_still : (text : List ℕ) → is_among text texts ≡ true → counted (offset_of texts text) ≡ counted (offset_of (texts_of more) text)
    offset_still text there = ap counted (sym (ap (λ (ts : List (List ℕ)). offset_of ts text) (texts_more entries (t, size)) ∙ offset-kept 4 texts (t.now ∷ []) text there))

    offset_itself : size ≡ counted (offset_of (texts_of more) t.now)
    offset_itself = table.size_is ∙ ap counted (sym (ap (λ (ts : List (List ℕ)). offset_of ts t.now) (texts_more entries (t, size)) ∙ offset-new 4 texts t.now new))

    untold_before : (text : List ℕ) → IsUntold more slots' text → IsUntold entries slots text
    untold_before text untold = λ j lt. by j lt (offset_at entries text (get_or slots (base slots text + j) 0)) refl
      where
        by : (j : ℕ) → j < 4 → (o : Option ℕ) → offset_at entries text (get_or slots (base slots text + j) 0) ≡ o → o ≡ None
        by j lt None is = refl
        by j lt (Some offset) is =
            let at : base slots' text + j ≡ base slots text + j = ap (λ (n : ℕ). n + j) (base_same slots slots' text len) in
            elim (kept (base slots text + j)) [
              | inl same ↦
                  (let slot : get_or slots' (base slots' text + j) 0 ≡ get_or slots (base slots text + j) 0 = ap (λ (n : ℕ). get_or slots' n 0) at ∙ same in
                  sym (told_kept entries ((t, size) ∷ []) text _ offset is) ∙ ap (offset_at more text) (sym slot) ∙ untold j lt)
              | inr free ↦ sym is ∙ ap (offset_at entries text) free
            ]

    found_still : (text : List ℕ) → is_among text texts ≡ true → IsUntold more slots' text → IsOther more slots' others' text
    found_still text there untold =
        let before = table.found text there (untold_before text untold) in
        record {
          taken = λ free. before.taken (
            closes (base slots text + 3) (ap (λ (n : ℕ). slice_get slots' (n + 3)) (sym (base_same slots slots' text len)) ∙ free.0),
            (let few = free.1 in omega (arith, length-append entries ((t, size) ∷ []), few)),
          );
          told = by (held others text) refl before.told;
        }
      where
        by : (o : Option ℕ) → held others text ≡ o → IsSome o → IsSome (held others' text)
        by None is some = absurd cc
        by (Some offset) is some = some_of offset (held others' text) (others_kept text offset is there)

    pub with_more : IsTable more slots' others' size'
    with_more = record {
      offsets_are = λ i e at. elim (get_more entries (t, size) i e at) [
        | inl before ↦ table.offsets_are i e before ∙ offset_still e.0.now (among_at entries i e before)
        | inr its ↦ subst (λ (x : Entry). x.1 ≡ counted (offset_of (texts_of more) x.0.now)) its offset_itself
      ];
      size_is =
          (let its = table.size_is in
          let bytes : length (string_bytes (texts_of more)) ≡ length (string_bytes texts) + length t.now + 1 = ap (λ (ts : List (List ℕ)). length (string_bytes ts)) (texts_more entries (t, size)) ∙ bytes-more texts t.now in
          omega arith);
      found = λ text there untold. elim (or_cases (is_among text texts) (bytes_eq text t.now || false) (sym (among_more text) ∙ there)) [
        | inl before ↦ found_still text before untold
        | inr last ↦ elim (or_cases (bytes_eq text t.now) false last) [
          | inl same ↦
              (let its : t.now ≡ text = sym (same_bytes text t.now same) in
              subst (λ (x : List ℕ). IsUntold more slots' x → IsOther more slots' others' x) its itself untold)
          | inr never ↦ absurd cc
        ]
      ];
      others_are = λ text offset is. elim (others_more text offset is) [
        | inl before ↦
            (let h = table.others_are text offset before in (among_still text h.0, h.1 ∙ offset_still text h.0))
        | inr its ↦
            (subst (λ (x : List ℕ). is_among x (texts_of more) ≡ true) its.0 among_itself, sym its.1 ∙ offset_itself ∙ ap (λ (x : List ℕ). counted (offset_of (texts_of more) x)) its.0)
      ];
    }

  -- ---- it has a slot, or is one of the others
  module _ (size' : ℕ) (t : Bor (List ℕ)) (new : is_among t.now texts ≡ false) (sum : size' ≡ counted (counted (size + length t.now) + 1)) where
    abbrev longer : List Entry
    longer = entries ++ (t, size) ∷ []

    missed : (text : List ℕ) → is_among text texts ≡ true → bytes_eq t.now text ≡ false
    missed text there = elim (cases_Bool (bytes_eq t.now text)) [
      | inl same ↦ absurd (true≢false (sym there ∙ ap (λ (x : List ℕ). is_among x texts) (sym (same_bytes t.now text same)) ∙ new))
      | inr apart ↦ apart
    ]

    itself_told : offset_at longer t.now (suc (length entries)) ≡ Some size
    itself_told = told longer t.now (suc (length entries)) (length entries) (t, size) refl (get_new entries (t, size)) ∙ rw (equal_bytes t.now) refl

    module _ (free : ℕ) (from : base slots t.now ≤ free) (near : free < base slots t.now + 4) (at : slice_get slots free ≡ Some 0) where
      abbrev put : List ℕ
      put = slice_set slots free (length entries + 1)

      len : length put ≡ length slots
      len = length-set slots free (length entries + 1)

      inside : free < length slots
      inside = slice_get_within slots free 0 at

      kept : (j : ℕ) → (get_or put j 0 ≡ get_or slots j 0) ⊎ (get_or slots j 0 ≡ 0)
      kept j = elim (eqb_tells j free) [
        | inl same ↦ inr (ap (λ (n : ℕ). get_or slots n 0) same.1 ∙ get_or_from_slice_get slots free 0 0 at)
        | inr apart ↦ inl (get_or-set_other slots free j (length entries + 1) 0 apart.1)
      ]

      closes : (j : ℕ) → slice_get put j ≡ Some 0 → slice_get slots j ≡ Some 0
      closes j is =
          let zero_there : get_or put j 0 ≡ 0 = get_or_from_slice_get put j 0 0 is in
          let within : j < length put = slice_get_within put j 0 is in
          elim (eqb_tells j free) [
            | inl same ↦
                (let its : get_or put free 0 ≡ length entries + 1 = get_or-set_same slots free (length entries + 1) 0 inside in
                let e : get_or put free 0 ≡ 0 = ap (λ (n : ℕ). get_or put n 0) (sym same.1) ∙ zero_there in
                absurd (omega (arith, its, e)))
            | inr apart ↦
                (let e : get_or slots j 0 ≡ 0 = sym (get_or-set_other slots free j (length entries + 1) 0 apart.1) ∙ zero_there in
                slice_get-get_or slots j 0 (omega (arith, within, len)) ∙ ap (λ (n : ℕ). Some n) e)
          ]

      itself : IsUntold longer put t.now → IsOther longer put others t.now
      itself untold =
          let j : ℕ = free - base slots t.now in
          let lt : j < 4 = omega (arith, from, near) in
          let place : base put t.now + j ≡ free = ap (λ (n : ℕ). n + j) (base_same slots put t.now len) ∙ omega (arith, from) in
          let its : get_or put free 0 ≡ suc (length entries) = get_or-set_same slots free (length entries + 1) 0 inside ∙ omega arith in
          let none : offset_at longer t.now (get_or put (base put t.now + j) 0) ≡ None = untold j lt in
          let some : offset_at longer t.now (get_or put (base put t.now + j) 0) ≡ Some size = ap (λ (n : ℕ). offset_at longer t.now (get_or put n 0)) place ∙ ap (offset_at longer t.now) its ∙ itself_told in
          absurd (none-some size (sym none ∙ some))

      pub with_slot : IsTable longer put others size'
      with_slot = with_more put others size' t new sum len kept closes (λ text offset is there. is) (λ text offset is. inl is) itself

    module _ (others' : BTreeMap Key ℕ) (taken : IsOpen slots (base slots t.now) (length entries) → ⊥) (updates : Updates compare others others' (length t.now, t) (Some size)) where
      after : (text : List ℕ) → held others' text ≡ (if bytes_eq t.now text then Some size else held others text)
      after = held_after t size others others' updates

      others_kept : (text : List ℕ) (offset : ℕ) → held others text ≡ Some offset → is_among text texts ≡ true → held others' text ≡ Some offset
      others_kept text offset is there = after text ∙ rw (missed text there) is

      others_more : (text : List ℕ) (offset : ℕ) → held others' text ≡ Some offset → (held others text ≡ Some offset) ⊎ ((t.now ≡ text) × (size ≡ offset))
      others_more text offset is = elim (cases_Bool (bytes_eq t.now text)) [
        | inl same ↦
            (let some : Some size ≡ Some offset = (let e = sym (after text) ∙ is in rw same at e) in
            inr (same_bytes t.now text same, same_Some size offset some))
        | inr apart ↦ (let e = sym (after text) ∙ is in inl (rw apart at e))
      ]

      itself_other : IsUntold longer slots t.now → IsOther longer slots others' t.now
      itself_other untold = record {
        taken = λ free. taken (free.0, (let few = free.1 in omega (arith, length-append entries ((t, size) ∷ []), few)));
        told = some_of size (held others' t.now) (after t.now ∙ rw (equal_bytes t.now) refl);
      }

      pub with_other : IsTable longer slots others' size'
      with_other = with_more slots others' size' t new sum refl (λ j. inl refl) (λ j is. is) others_kept others_more itself_other
