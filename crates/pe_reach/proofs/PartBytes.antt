-- What parts of a file that were read decide.
use Rattle.std.proofs.Common.{◌≡◌, ℕ, zero, suc, ◌+◌, ◌-◌, ◌^◌, ◌<◌, ◌≤◌, true, false, is_err, Result, Ok, Err, List, [], ◌∷◌, ◌++◌, length, take, drop, get_or, Option, None, Some, All, refl, sym, subst, ◌∙◌, ap, ap₂, arith, append_assoc, append-nil, drop-cons, inl, inr}
use Rattle.std.proofs.lemmas.Bool.{cases_lt, ltb-false, lt-ltb, and_parts}
use Rattle.std.proofs.lemmas.List.{ext_get_or, drop_all, take_more, get_or-append-add, get_or-take, get_or_append_left, get_or-append_right, length-append, length-take-le, take-take, take-append-le}
use Rattle.std.proofs.Math.Seq.{get_or-append_seam}
use Rattle.std.specs.Prelude.{⊤, Bool, ◌&&◌, is_none, nat_lt, nat_le, max}
use Rattle.std.specs.Option.{option_or}
use Rattle.pe_view.specs.Number.{byte_of}
use Rattle.pe_view.specs.declared.fault.Fault.{Fault}
use Rattle.pe_view.specs.Faults.{Test, Answers, first_standing}
use Rattle.pe_view.specs.FirstStanding.{first-append, none-append, none_stands}
use Rattle.pe_head.specs.Head.{head_of}
use Rattle.pe_head.specs.HeaderFaults.{head_tests}
use Rattle.pe_head.specs.Section.{rawlen}
use Rattle.pe_head.specs.declared.section.SectionHeader.{SectionHeader}
use Rattle.pe_head.specs.declared.headers.Headers.{Headers}
use Rattle.pe_layout.specs.Piece.{end_of}
use Rattle.pe_layout.specs.SectionFaults.{layout_tests, placing_tests, section_tests, sections_tests}
use Rattle.pe_parts.specs.Packed.{moved, IsHeld, AreHeld}
use Rattle.pe_reach.specs.Reach.{HaveBoth, headers_end}
use Rattle.pe_reach.specs.Parts.{Part, HasPart, Stand}
use Rattle.pe_reach.specs.PartsRead.{EndsEarly, can_begin, has_headers, IsRawInside, place_of, next_place, packed_from, packed_end}
use Rattle.pe_reach.proofs.Headers.{headers_agree}
use Rattle.pe_reach.proofs.Images.{lower, agree_of_both, head_first_agrees}

module _ {X : Type 0} (P : X → Type 0) (xs : List X) where
  -- what holds of all holds of the first ones, and of the last
  pub all_first : (ys : List X) → All P (xs ++ ys) → All P xs
  all_first ys all = λ k d lt. subst P (get_or_append_left xs ys d k lt) (all k d (omega (arith, length-append xs ys, lt)))

  pub all_last : (y : X) → All P (xs ++ y ∷ []) → P y
  all_last y all = subst P (get_or-append_seam xs y [] y) (all (length xs) y (omega (arith, length-append xs (y ∷ []))))

-- and of the rest
pub all_rest : {X : Type 0} (P : X → Type 0) (xs ys : List X) → All P (xs ++ ys) → All P ys
all_rest P xs ys all = λ k d lt. subst P (get_or-append-add xs ys k d) (all (length xs + k) d (omega (arith, length-append xs ys, lt)))

-- a list that begins as another one does begins so with fewer elements, too
pub front_on : (less n : ℕ) (old new first : List ℕ) → less ≤ n → take n new ≡ old → take less old ≡ first → take less new ≡ first
front_on less n old new first le same is = sym (take-take less n new le) ∙ ap (take less) same ∙ is

-- a call put more of them behind those, and the bytes in front of these stay
module _ (old room after more : List ℕ) (size start filled n : ℕ) (within : start + filled ≤ length old) (fits : n ≤ length room) (holds : start + filled + n ≤ size) where
  front_len : length (take (start + filled) old) ≡ start + filled
  front_len = length-take-le (start + filled) old within

  pub front_stays : take start (take size ((take (start + filled) old ++ (room ++ after)) ++ more)) ≡ take start old
  front_stays =
      take-take start size ((take (start + filled) old ++ (room ++ after)) ++ more) (omega (arith, holds))
      ∙ take-append-le start (take (start + filled) old ++ (room ++ after)) more (omega (arith, length-append (take (start + filled) old) (room ++ after), front_len))
      ∙ take-append-le start (take (start + filled) old) (room ++ after) (omega (arith, front_len))
      ∙ take-take start (start + filled) old (omega arith)

  byte_in : (k : ℕ) → k < filled + n → byte_of (take size ((take (start + filled) old ++ (room ++ after)) ++ more)) (start + k) ≡ byte_of (take (start + filled) old ++ (room ++ after)) (start + k)
  byte_in k lt =
      get_or-take size ((take (start + filled) old ++ (room ++ after)) ++ more) (start + k) 0 (omega (arith, lt, holds))
      ∙ get_or_append_left (take (start + filled) old ++ (room ++ after)) more 0 (start + k)
      (omega (arith, length-append (take (start + filled) old) (room ++ after), length-append room after, front_len, lt, fits))

  pub stand_more : (file : List ℕ) (offset : ℕ) → Stand file old offset start filled → HasPart file (record { offset = offset + filled; bytes = take n room })
      → Stand file (take size ((take (start + filled) old ++ (room ++ after)) ++ more)) offset start (filled + n)
  stand_more file offset stand has = λ k lt. byte_in k lt ∙ elim (cases_lt k filled) [
    | inl below ↦
        get_or_append_left (take (start + filled) old) (room ++ after) 0 (start + k) (omega (arith, front_len, below))
        ∙ get_or-take (start + filled) old (start + k) 0 (omega (arith, below))
        ∙ stand k below
    | inr above ↦
        let place : (start + k) - (start + filled) ≡ k - filled = omega (arith, above) in
        let some : k - filled < n = omega (arith, above, lt) in
        get_or-append_right (take (start + filled) old) (room ++ after) (start + filled) (start + k) 0 front_len (omega (arith, above))
        ∙ ap (λ j. get_or (room ++ after) j 0) place
        ∙ get_or_append_left room after 0 (k - filled) (omega (arith, some, fits))
        ∙ sym (get_or-take n room (k - filled) 0 some)
        ∙ sym (has (k - filled) (omega (arith, length-take-le n room fits, some)))
        ∙ ap (λ j. get_or file j 0) (let e : offset + filled + (k - filled) ≡ offset + k = omega (arith, above) in e)
  ]

-- the bytes before a place stay, if the buffer begins as it did
pub stand_on : (file old new : List ℕ) (offset start count : ℕ) → take (length old) new ≡ old → start + count ≤ length old → Stand file old offset start count → Stand file new offset start count
stand_on file old new offset start count same within stand = λ k lt.
    sym (get_or-take (length old) new (start + k) 0 (omega (arith, within, lt))) ∙ ap (λ (xs : List ℕ). get_or xs (start + k) 0) same ∙ stand k lt

-- a section that is held stays so, if the packed bytes begin as they did
held_on : (file old new : List ℕ) (s : SectionHeader) (p : ℕ) → take (length old) new ≡ old → length old ≤ length new → IsHeld file old s p → IsHeld file new s p
held_on file old new s p same le held =
    let within = held.within in
    record { raw = held.raw; within = omega (arith, within, le); bytes = stand_on file old new s.pointer_to_raw_data p (rawlen s) same within held.bytes }

pub all_held_on : (file old new : List ℕ) (ss ts : List SectionHeader) → take (length old) new ≡ old → length old ≤ length new → AreHeld file old ss ts → AreHeld file new ss ts
all_held_on file old new [] [] same le all = all
all_held_on file old new [] (t ∷ ts) same le all = all
all_held_on file old new (s ∷ ss) [] same le all = all
all_held_on file old new (s ∷ ss) (t ∷ ts) same le all =
    (all.0, ((λ some. held_on file old new s t.pointer_to_raw_data same le (all.1.0 some)), all_held_on file old new ss ts same le all.1.1))

-- one more section
pub all_held_more : (file packed : List ℕ) (ss ts : List SectionHeader) (s t : SectionHeader) → AreHeld file packed ss ts → t ≡ moved s t.pointer_to_raw_data → (0 < t.pointer_to_raw_data → IsHeld file packed s t.pointer_to_raw_data)
    → AreHeld file packed (ss ++ s ∷ []) (ts ++ t ∷ [])
all_held_more file packed [] [] s t all is held = (is, (held, tt))
all_held_more file packed [] (t' ∷ ts) s t all is held = absurd all
all_held_more file packed (s' ∷ ss) [] s t all is held = absurd all
all_held_more file packed (s' ∷ ss) (t' ∷ ts) s t all is held = (all.0, (all.1.0, all_held_more file packed ss ts s t all.1.1 is held))

-- a section with raw data has a pointer to it
pub has_pointer : (s : SectionHeader) → 0 < rawlen s → 0 < s.pointer_to_raw_data
has_pointer s some = elim (cases_lt 0 s.pointer_to_raw_data) [
  | inl above ↦ above
  | inr below ↦
      let zero : s.pointer_to_raw_data ≡ 0 = omega (arith, below) in
      let none : rawlen s ≡ 0 = rw zero refl in
      absurd (omega (arith, some, none))
]

-- one more section, which bytes were appended for
pub section_more : (file old new : List ℕ) (n : ℕ) (ss items ts : List SectionHeader) (i : ℕ) (d : SectionHeader) (pointer : ℕ) → items ≡ ss → i < length items → length old ≡ n → take n new ≡ old → n ≤ length new
    → AreHeld file old (take i ss) ts → (0 < pointer → IsHeld file new (get_or items i d) pointer) → AreHeld file new (take (i + 1) ss) (ts ++ moved (get_or items i d) pointer ∷ [])
section_more file old new n ss items ts i d pointer same lt size front le all held =
    let lt' : i < length ss = subst (λ (xs : List SectionHeader). i < length xs) same lt in
    let held' : 0 < pointer → IsHeld file new (get_or ss i d) pointer = subst (λ (xs : List SectionHeader). 0 < pointer → IsHeld file new (get_or xs i d) pointer) same held in
    let front' : take (length old) new ≡ old = ap (λ m. take m new) size ∙ front in
    let kept : AreHeld file new (take i ss) ts = all_held_on file old new (take i ss) ts front' (omega (arith, size, le)) all in
    let more : AreHeld file new (take i ss ++ get_or ss i d ∷ []) (ts ++ moved (get_or ss i d) pointer ∷ []) = all_held_more file new (take i ss) ts (get_or ss i d) (moved (get_or ss i d) pointer) kept refl held' in
    subst (λ (xs : List SectionHeader). AreHeld file new (take (i + 1) ss) (ts ++ moved (get_or xs i d) pointer ∷ [])) (sym same) (rw (take_more ss i d lt') more)

-- the headers are those of the file, of whose first bytes they are a part
pub headers_packed : (file begin kept new : List ℕ) (n m : ℕ) → n ≤ length begin → kept ≡ take n begin → m ≡ n → take m new ≡ kept → HasPart file (record { offset = 0; bytes = begin }) → (r : ℕ) → r < n → byte_of new r ≡ byte_of file r
headers_packed file begin kept new n m le part is same has = λ r lt.
    let e : 0 + r ≡ r = omega arith in
    sym (get_or-take m new r 0 (omega (arith, is, lt))) ∙ ap (λ (xs : List ℕ). get_or xs r 0) (same ∙ part) ∙ get_or-take n begin r 0 lt
    ∙ sym (has r (omega (arith, lt, le))) ∙ ap (λ j. get_or file j 0) e

-- tests without a fault
pub ok_none : (tests : List Test) (result : Result (Unit {0}) Fault) → Answers tests (λ _. ⊤) result → is_err result ≡ false → first_standing tests ≡ None
ok_none tests (Ok u) answers ok = answers.0
ok_none tests (Err fault) answers ok = absurd cc

-- tests with one
pub err_some : (tests : List Test) (result : Result (Unit {0}) Fault) → Answers tests (λ _. ⊤) result → is_err result ≡ true → is_none (first_standing tests) ≡ false
err_some tests (Ok u) answers err = absurd cc
err_some tests (Err fault) answers err = ap is_none answers

module _ (file begin : List ℕ) (len : ℕ) (small : len ≤ 2 ^ 32) (size : length file ≡ len) (within : length begin ≤ len) (has : HasPart file (record { offset = 0; bytes = begin })) where
  both : HaveBoth (length begin) file begin
  both = record { reach_f = omega (arith, size, within); reach_g = omega arith; small_f = omega (arith, size, small); small_g = omega (arith, within, small); bytes = λ k lt. sym (ap (λ j. get_or file j 0) (let e : 0 + k ≡ k = omega arith in e)) ∙ has k lt }

  -- a file has the headers of its first bytes, if these hold them
  pub headers_same : headers_end begin ≤ length begin → head_of file ≡ head_of begin
  headers_same held = headers_agree file begin (lower (headers_end begin) (length begin) file begin held (agree_of_both (length begin) file begin both))

  -- and then none of faults 1 to 15, if its first bytes have none of faults 1 to 12 and its sections none of the others
  pub sound_same : headers_end begin ≤ length begin → (head_of begin).size_of_headers ≤ length begin → first_standing (head_tests 0 begin) ≡ None → first_standing (placing_tests 0 (head_of begin) len) ≡ None
      → first_standing (layout_tests 0 file) ≡ None
  sound_same held covers head placing =
      first-append (head_tests 0 file) (placing_tests 0 (head_of file) (length file))
      ∙ ap₂ option_or (head_first_agrees 0 (length begin) file begin held covers both ∙ head)
      (ap₂ (λ (h : Headers) n. first_standing (placing_tests 0 h n)) (headers_same held) size ∙ placing)

-- the last read returned nothing, before an end
pub ends_early : (end : ℕ) (before mid now read : List Part) (offset n : ℕ) (room : List ℕ) → offset < end → mid ≡ before ++ read → n ≡ 0 → now ≡ mid ++ record { offset = offset; bytes = take n room } ∷ []
    → EndsEarly end before now
ends_early end before mid now read offset n room below reads none last = (
  read,
  offset,
  below,
  last ∙ ap (λ (k : ℕ). mid ++ record { offset = offset; bytes = take k room } ∷ []) none
      ∙ ap (λ (ps : List Part). ps ++ record { offset = offset; bytes = [] } ∷ []) reads ∙ append_assoc before read (record { offset = offset; bytes = [] } ∷ []),
)

-- so it did after other reads
pub early_on : (end : ℕ) (before mid now read : List Part) → mid ≡ before ++ read → EndsEarly end mid now → EndsEarly end before now
early_on end before mid now read reads early = (
  read ++ early.0,
  early.1,
  early.2,
  early.3 ∙ ap (λ (ps : List Part). ps ++ (early.0 ++ record { offset = early.1; bytes = [] } ∷ [])) reads
      ∙ append_assoc before read (early.0 ++ record { offset = early.1; bytes = [] } ∷ [])
      ∙ ap (λ (ps : List Part). before ++ ps) (sym (append_assoc read early.0 (record { offset = early.1; bytes = [] } ∷ []))),
)

-- and before a later end
pub early_within : (end later : ℕ) (before now : List Part) → end ≤ later → EndsEarly end before now → EndsEarly later before now
early_within end later before now le early = (early.0, early.1, (let below = early.2 in omega (arith, below, le)), early.3)

-- a file of a length has the raw data of the sections, if they have none of faults 13 to 15
raw_inside : (image : ℕ) (h : Headers) (len before i : ℕ) (s : SectionHeader) → first_standing (section_tests image h len before i s) ≡ None → IsRawInside len s
raw_inside image h len before i s none = λ some.
    let test = none_stands (section_tests image h len before i s) 0 _ none refl in
    let e : nat_lt 0 (rawlen s) ≡ true = lt-ltb _ _ some in
    let fits : nat_lt len (s.pointer_to_raw_data + rawlen s) ≡ false = rw e at test in
    ltb-false _ _ fits

inside_more : (len : ℕ) (s : SectionHeader) (ss : List SectionHeader) → IsRawInside len s → All (IsRawInside len) ss → (k : ℕ) (d : SectionHeader) → k < length (s ∷ ss) → IsRawInside len (get_or (s ∷ ss) k d)
inside_more len s ss first rest zero d lt = first
inside_more len s ss first rest (suc k) d lt = rest k d (omega arith)

pub all_inside : (image : ℕ) (h : Headers) (len before i : ℕ) (ss : List SectionHeader) → first_standing (sections_tests image h len before i ss) ≡ None → All (IsRawInside len) ss
unfolding sections_tests
all_inside image h len before i [] none = λ k d lt. absurd (omega arith)
all_inside image h len before i (s ∷ ss) none =
    let parts = none-append (section_tests image h len before i s) (sections_tests image h len (end_of s) (i + 1) ss) none in
    inside_more len s ss (raw_inside image h len before i s parts.0) (all_inside image h len (end_of s) (i + 1) ss parts.1)

-- one more section as it is packed
pub packed_more : (h : Headers) (len place next : ℕ) (ss items ts all : List SectionHeader) (i : ℕ) (d : SectionHeader) (pointer : ℕ) → items ≡ ss → i < length items
    → pointer ≡ place_of h len place (get_or items i d) → next ≡ next_place h len place (get_or items i d) → ts ++ packed_from h len place (drop i ss) ≡ all
    → (ts ++ moved (get_or items i d) pointer ∷ []) ++ packed_from h len next (drop (i + 1) ss) ≡ all
packed_more h len place next ss items ts all i d pointer same lt is goes old =
    let lt' : i < length ss = subst (λ (xs : List SectionHeader). i < length xs) same lt in
    let is' : pointer ≡ place_of h len place (get_or ss i d) = subst (λ (xs : List SectionHeader). pointer ≡ place_of h len place (get_or xs i d)) same is in
    let goes' : next ≡ next_place h len place (get_or ss i d) = subst (λ (xs : List SectionHeader). next ≡ next_place h len place (get_or xs i d)) same goes in
    let one : suc i ≡ i + 1 = omega arith in
    let cons : drop i ss ≡ get_or ss i d ∷ drop (i + 1) ss = subst (λ n. drop i ss ≡ get_or ss i d ∷ drop n ss) one (drop-cons ss i d lt') in
    let step : moved (get_or ss i d) pointer ∷ packed_from h len next (drop (i + 1) ss) ≡ packed_from h len place (drop i ss) =
    ap₂ (λ q n. moved (get_or ss i d) q ∷ packed_from h len n (drop (i + 1) ss)) is' goes' ∙ sym (ap (packed_from h len place) cons) in
    append_assoc ts (moved (get_or items i d) pointer ∷ []) (packed_from h len next (drop (i + 1) ss))
    ∙ ap (λ (xs : List SectionHeader). ts ++ moved (get_or xs i d) pointer ∷ packed_from h len next (drop (i + 1) ss)) same
    ∙ ap (λ (xs : List SectionHeader). ts ++ xs) step ∙ old

-- all of them
pub packed_all : (h : Headers) (len place : ℕ) (ss ts all : List SectionHeader) (i : ℕ) → length ss ≤ i → ts ++ packed_from h len place (drop i ss) ≡ all → ts ≡ all
packed_all h len place ss ts all i past old = sym (append-nil ts) ∙ ap (λ (xs : List SectionHeader). ts ++ packed_from h len place xs) (sym (drop_all i ss past)) ∙ old

-- where the packed bytes end does not change with one more section
pub end_more : (h : Headers) (len place next : ℕ) (ss items : List SectionHeader) (all i : ℕ) (d : SectionHeader) → items ≡ ss → i < length items
    → next ≡ next_place h len place (get_or items i d) → packed_end h len place (drop i ss) ≡ all → packed_end h len next (drop (i + 1) ss) ≡ all
end_more h len place next ss items all i d same lt goes old =
    let lt' : i < length ss = subst (λ (xs : List SectionHeader). i < length xs) same lt in
    let goes' : next ≡ next_place h len place (get_or ss i d) = subst (λ (xs : List SectionHeader). next ≡ next_place h len place (get_or xs i d)) same goes in
    let one : suc i ≡ i + 1 = omega arith in
    let cons : drop i ss ≡ get_or ss i d ∷ drop (i + 1) ss = subst (λ n. drop i ss ≡ get_or ss i d ∷ drop n ss) one (drop-cons ss i d lt') in
    ap (λ n. packed_end h len n (drop (i + 1) ss)) goes' ∙ sym (ap (packed_end h len place) cons) ∙ old

pub end_all : (h : Headers) (len place : ℕ) (ss : List SectionHeader) (all i : ℕ) → length ss ≤ i → packed_end h len place (drop i ss) ≡ all → place ≡ all
end_all h len place ss all i past old = ap (packed_end h len place) (sym (drop_all i ss past)) ∙ old

-- a file begins with so many bytes
pub begins_as : (file begin : List ℕ) (n : ℕ) → length begin ≡ n → n ≤ length file → ((k : ℕ) → k < n → get_or begin k 0 ≡ get_or file k 0) → take n file ≡ begin
begins_as file begin n size le same = ext_get_or 0 (take n file) begin (length-take-le n file le ∙ sym size) (λ k lt.
    let below : k < n = omega (arith, lt, length-take-le n file le) in
    get_or-take n file k 0 below ∙ sym (same k below))

-- an option that is not one of the values is none
pub none_is : {X : Type 0} (o : Option X) → ((x : X) → o ≡ Some x → ⊥) → o ≡ None
none_is None other = refl
none_is (Some x) other = absurd (other x refl)

-- so is one that is none by its test
pub none_by_test : {X : Type 0} (o : Option X) → is_none o ≡ true → o ≡ None
none_by_test None is = refl
none_by_test (Some x) is = absurd cc

-- the last of four tests
last_holds : (a b c d : Bool) → (a && (b && (c && d))) ≡ true → d ≡ true
last_holds a b c d all = (and_parts c d (and_parts b (c && d) (and_parts a (b && (c && d)) all).1).1).1

-- the sections of a file of a length have none of faults 13 to 15, if its first bytes have its headers
pub placed_by_test : (len : ℕ) (begin : List ℕ) → has_headers len begin ≡ true → first_standing (placing_tests 0 (head_of begin) len) ≡ None
placed_by_test len begin has = none_by_test _
    (last_holds (can_begin len (length begin)) (is_none (first_standing (head_tests 0 begin))) (nat_le (max (headers_end begin) (head_of begin).size_of_headers) (length begin)) _ has)
