-- How raw data lies if fault 52 holds for no section.
use Rattle.std.proofs.Common.{◌≡◌, ℕ, zero, suc, ◌+◌, ◌<◌, ◌≤◌, ◌⊎◌, Bool, true, false, List, [], ◌∷◌, ◌++◌, length, get_or, None, refl, inl, inr, arith, length-append}
use Rattle.std.specs.Prelude.{◌&&◌}
use Rattle.std.specs.List.{list_any}
use Rattle.std.proofs.lemmas.Bool.{ltb-false, lt-ltb, or_parts, and_cases, false≢true}
use Rattle.std.proofs.lemmas.List.{get_or_append_left, get_or_push}
use Rattle.pe_head.specs.declared.section.SectionHeader.{SectionHeader}
use Rattle.pe_head.specs.declared.headers.Headers.{Headers}
use Rattle.pe_head.specs.Section.{rawlen}
use Rattle.pe_view.specs.Faults.{first_standing}
use Rattle.pe_view.specs.FirstStanding.{none_stands, none-append}
use Rattle.pe_write.specs.RebaseFaults.{raw_meets, range_test, ranges_tests}

-- the raw data of both is disjoint in the file
pub record Apart (s t : SectionHeader) : Type 0 where
  pub apart : 0 < rawlen s → 0 < rawlen t → (s.pointer_to_raw_data + rawlen s ≤ t.pointer_to_raw_data) ⊎ (t.pointer_to_raw_data + rawlen t ≤ s.pointer_to_raw_data)

pub flip : (s t : SectionHeader) → Apart s t → Apart t s
flip s t a = record { apart = λ some other. elim (a.apart other some) [ inl below ↦ inr below | inr above ↦ inl above ] }

-- raw data is after the headers and disjoint
pub record RawApart (h : Headers) (before ss : List SectionHeader) : Type 0 where
  pub starts : (k : ℕ) (d : SectionHeader) → k < length ss → 0 < rawlen (get_or ss k d) → h.size_of_headers ≤ (get_or ss k d).pointer_to_raw_data
  pub behind : (j k : ℕ) (d : SectionHeader) → j < length before → k < length ss → Apart (get_or before j d) (get_or ss k d)
  pub apart : (j k : ℕ) (d : SectionHeader) → j < k → k < length ss → Apart (get_or ss j d) (get_or ss k d)

none_any : {X : Type 0} (p : X → Bool) (xs : List X) (k : ℕ) (d : X) → k < length xs → list_any p xs ≡ false → p (get_or xs k d) ≡ false
none_any p [] k d lt none = absurd (omega arith)
none_any p (x ∷ xs) zero d lt none = (or_parts _ _ none).0
none_any p (x ∷ xs) (suc k) d lt none = none_any p xs k d (omega arith) (or_parts _ _ none).1

second_fails : (a b : Bool) → a ≡ true → (a && b) ≡ false → b ≡ false
second_fails true b is none = none
second_fails false b is none = absurd (false≢true is)

unmet : (s t : SectionHeader) → raw_meets s t ≡ false → Apart s t
unmet s t none = record {
  apart = λ some other.
      let fails = second_fails _ _ (lt-ltb _ _ other) none in
      elim (and_cases _ _ fails) [ inl above ↦ inr (ltb-false _ _ above) | inr below ↦ inl (ltb-false _ _ below) ];
}

record Placed (h : Headers) (before : List SectionHeader) (s : SectionHeader) : Type 0 where
  starts : 0 < rawlen s → h.size_of_headers ≤ s.pointer_to_raw_data
  behind : (j : ℕ) (d : SectionHeader) → j < length before → Apart (get_or before j d) s

placed : (h : Headers) (before : List SectionHeader) (k : ℕ) (s : SectionHeader) → (range_test h before k s).stands ≡ false → Placed h before s
placed h before k s none = record {
  starts = λ some. ltb-false _ _ (or_parts _ _ (second_fails _ _ (lt-ltb _ _ some) none)).0;
  behind = λ j d lt. record {
    apart = λ some other.
        (flip s (get_or before j d) (unmet s (get_or before j d) (none_any (raw_meets s) before j d lt (or_parts _ _ (second_fails _ _ (lt-ltb _ _ other) none)).1))).apart some other;
  };
}

starts_more : (h : Headers) (before : List SectionHeader) (s : SectionHeader) (ss : List SectionHeader) → Placed h before s → RawApart h (before ++ s ∷ []) ss
    → (k : ℕ) (d : SectionHeader) → k < length (s ∷ ss) → 0 < rawlen (get_or (s ∷ ss) k d) → h.size_of_headers ≤ (get_or (s ∷ ss) k d).pointer_to_raw_data
starts_more h before s ss p rest zero d lt some = p.starts some
starts_more h before s ss p rest (suc k) d lt some = rest.starts k d (omega arith) some

behind_more : (h : Headers) (before : List SectionHeader) (s : SectionHeader) (ss : List SectionHeader) → Placed h before s → RawApart h (before ++ s ∷ []) ss
    → (j k : ℕ) (d : SectionHeader) → j < length before → k < length (s ∷ ss) → Apart (get_or before j d) (get_or (s ∷ ss) k d)
behind_more h before s ss p rest j zero d lt inside = p.behind j d lt
behind_more h before s ss p rest j (suc k) d lt inside =
    let e : get_or (before ++ s ∷ []) j d ≡ get_or before j d = get_or_append_left before (s ∷ []) d j lt in
    rw (← e) (rest.behind j k d (omega (arith, length-append {A = SectionHeader})) (omega arith))

apart_more : (h : Headers) (before : List SectionHeader) (s : SectionHeader) (ss : List SectionHeader) → RawApart h (before ++ s ∷ []) ss
    → (j k : ℕ) (d : SectionHeader) → j < k → k < length (s ∷ ss) → Apart (get_or (s ∷ ss) j d) (get_or (s ∷ ss) k d)
apart_more h before s ss rest j zero d below lt = absurd (omega arith)
apart_more h before s ss rest zero (suc k) d below lt =
    let e : get_or (before ++ s ∷ []) (length before) d ≡ s = get_or_push before s d (length before) refl in
    rw (← e) (rest.behind (length before) k d (omega (arith, length-append {A = SectionHeader})) (omega arith))
apart_more h before s ss rest (suc j) (suc k) d below lt = rest.apart j k d (omega arith) (omega arith)

pub raw_apart : (h : Headers) (before : List SectionHeader) (k : ℕ) (ss : List SectionHeader) → first_standing (ranges_tests h before k ss) ≡ None → RawApart h before ss
unfolding ranges_tests
raw_apart h before k [] none = record { starts = λ k d lt. absurd (omega arith); behind = λ j k d inside lt. absurd (omega arith); apart = λ j k d below lt. absurd (omega arith) }
raw_apart h before k (s ∷ ss) none =
    let p = placed h before k s (none_stands (ranges_tests h before k (s ∷ ss)) 0 _ none refl) in
    let rest = raw_apart h (before ++ s ∷ []) (k + 1) ss (none-append (range_test h before k s ∷ []) (ranges_tests h (before ++ s ∷ []) (k + 1) ss) none).1 in
    record { starts = starts_more h before s ss p rest; behind = behind_more h before s ss p rest; apart = apart_more h before s ss rest }
