-- Fields that are compared with each other once all are read.
use Rattle.std.proofs.Common.{◌≡◌, ◌∙◌, ℕ, suc, ◌+◌, ◌<◌, ◌≤◌, true, false, List, [], ◌∷◌, ◌++◌, length, get_or, Option, Some, None, refl, sym, ap, subst, arith, inl, inr, append_assoc, append-nil, length-append}
use Rattle.std.specs.Prelude.{map, nat_lt, AllPairs, MatchOption, is_none, is_some, ⊤}
use Rattle.std.proofs.lemmas.Bool.{le-ltb, and_right}
use Rattle.std.proofs.Math.Seq.{get_or-append_seam}
use Rattle.std.proofs.lemmas.List.{get_or_append_left, map-append}
use Rattle.std.proofs.lemmas.List.Elements.{All-map}
use Rattle.std.proofs.lemmas.List.Folds.{list_any_none}
use Rattle.std.proofs.lemmas.List.Kept.{AllPairs-cons}
use Rattle.pe_ranges.specs.Ranges.{AreApart, SameRanges, meets, meets_any}
use Rattle.pe_ranges.specs.RangesView.{ranges_in}
use Rattle.pe_tables.specs.Fixups.{range_of, width_of}
use Rattle.pe_tables.specs.FixupReading.{AreAllApart, AreRising, IsIndexed, IsMet, IsSettled, Keeps}
use Rattle.pe_tables.specs.declared.fixups.Fixup.{Fixup}
use Rattle.pe_ranges.specs.declared.ranges.Ranges.{Ranges}
use Rattle.pe_tables.specs.declared.found_fixups.FoundFixups.{FoundFixups}
use Rattle.pe_ranges.proofs.Pairs.{AllPairs-nil}
use Rattle.pe_tables.proofs.RisingFields.{behind-apart, ends-later}

-- related pairs, after a function of each
AllPairs-map : {X Y : Type 0} (R : Y → Y → Type 0) (f : X → Y) (xs : List X) → AllPairs (λ x y. R (f x) (f y)) xs → AllPairs R (map f xs)
AllPairs-map R f [] pairs = AllPairs-nil R
AllPairs-map R f (x ∷ xs) pairs =
    AllPairs-cons R (f x) (map f xs)
    (All-map (R (f x)) f xs (λ k d lt. pairs 0 (suc k) d (omega arith) (omega arith)))
    (AllPairs-map R f xs (λ i j d lt within. pairs (suc i) (suc j) d (omega arith) (omega arith)))

-- ascending ranges have nothing in common
pub rising-apart : (fixups : List Fixup) → AreRising fixups → AreAllApart fixups
rising-apart fixups rising = AllPairs-map AreApart range_of fixups (λ i j d lt within. inl (rising i j d lt within))

-- the first of several elements that are related in pairs
pairs-front : {X : Type 0} (R : X → X → Type 0) (xs ys : List X) → AllPairs R (xs ++ ys) → AllPairs R xs
pairs-front R xs ys pairs = λ i j d lt within.
    let before : i < length xs = omega arith in
    let more : length (xs ++ ys) ≡ length xs + length ys = length-append xs ys in
    rw (← get_or_append_left xs ys d i before, ← get_or_append_left xs ys d j within) (pairs i j d lt (omega (arith, more)))

off : (start len : ℕ) (range : ℕ × ℕ) → AreApart range (start, len) → meets start len range.0 range.1 ≡ false
off start len range (inl before) = rw (le-ltb start (range.0 + range.1) before) refl
off start len range (inr behind) = rw (le-ltb range.0 (start + len) behind) (and_right (nat_lt start (range.0 + range.1)) false refl)

-- the last of several fields that share no byte meets none of the others
pub last-apart : (before : List Fixup) (f : Fixup) → AreAllApart (before ++ f ∷ []) → meets_any f.field (width_of f.kind) (map range_of before) ≡ false
last-apart before f all =
    let ranges : List (ℕ × ℕ) = map range_of before in
    let pairs : AllPairs AreApart (ranges ++ range_of f ∷ []) = subst (AllPairs AreApart) (map-append range_of before (f ∷ [])) all in
    list_any_none (λ (range : ℕ × ℕ). meets f.field (width_of f.kind) range.0 range.1) ranges
    (λ k d lt.
    let more : length (ranges ++ range_of f ∷ []) ≡ length ranges + 1 = length-append ranges (range_of f ∷ []) in
    let both : AreApart (get_or (ranges ++ range_of f ∷ []) k d) (get_or (ranges ++ range_of f ∷ []) (length ranges) d) = pairs k (length ranges) d lt (omega (arith, more)) in
    off f.field (width_of f.kind) (get_or ranges k d) (rw (get_or_append_left ranges (range_of f ∷ []) d k lt, get_or-append_seam ranges (range_of f) [] d) at both))

module _ {A : Type 0} where
  pub keeps-refl : (found : FoundFixups A) → IsIndexed found → Keeps found found
  keeps-refl found indexed = record { more = []; fixups = sym (append-nil found.fixups.items); fields = refl; indexed = λ _. indexed }

  -- no fixup was added
  pub keeps-none : (old new : FoundFixups A) → new.fixups.items ≡ old.fixups.items → is_none new.fields ≡ is_none old.fields → (is_none new.fields ≡ true → IsIndexed new) → Keeps old new
  keeps-none old new same fields indexed = record { more = []; fixups = same ∙ sym (append-nil old.fixups.items); fields = fields; indexed = indexed }

  pub keeps-trans : (old mid new : FoundFixups A) → Keeps old mid → Keeps mid new → Keeps old new
  keeps-trans old mid new before after = record {
    more = before.more ++ after.more;
    fixups = after.fixups ∙ ap (λ (fs : List Fixup). fs ++ after.more) before.fixups ∙ append_assoc old.fixups.items before.more after.more;
    fields = after.fields ∙ before.fields;
    indexed = after.indexed;
  }

  -- fields that share no byte shared none before
  pub settled-before : (old new : FoundFixups A) → Keeps old new → IsSettled new → IsSettled old
  settled-before old new keeps settled = λ none.
      let all : AllPairs AreApart (map range_of (old.fixups.items ++ keeps.more)) = subst AreAllApart keeps.fixups (settled (keeps.fields ∙ none)) in
      pairs-front AreApart (map range_of old.fixups.items) (map range_of keeps.more) (subst (AllPairs AreApart) (map-append range_of old.fixups.items keeps.more) all)

  -- a field that was added met no other
  pub unmet : (old : FoundFixups A) (f : Fixup) (fields : Option (Ranges A)) (fixups : List Fixup) → is_none fields ≡ is_none old.fields → fixups ≡ old.fixups.items ++ f ∷ []
      → IsMet old f.field (width_of f.kind) false → (is_none fields ≡ true → AreAllApart fixups) → meets_any f.field (width_of f.kind) (map range_of old.fixups.items) ≡ false
  unmet old f fields fixups same items met settled = by old.fields same met
    where
      by : (was : Option (Ranges A)) → is_none fields ≡ is_none was → MatchOption was (false ≡ false) (λ _. false ≡ meets_any f.field (width_of f.kind) (map range_of old.fixups.items))
          → meets_any f.field (width_of f.kind) (map range_of old.fixups.items) ≡ false
      by None none met = last-apart old.fixups.items f (subst AreAllApart items (settled none))
      by (Some ranges) some met = sym met

  -- with the same fixups, and no ranges, all is as it was
  pub still-indexed : (old new : FoundFixups A) → IsIndexed old → new.fixups.items ≡ old.fixups.items → new.end ≡ old.end → new.ascending ≡ old.ascending → is_none new.fields ≡ is_none old.fields
      → is_none new.fields ≡ true → IsIndexed new
  still-indexed old new indexed items end ascending fields none = record {
    ends = rw (items, end) indexed.ends;
    rising = rw (items, ascending) indexed.rising;
    fields = by new.fields none;
  }
    where
      by : (ranges : Option (Ranges A)) → is_none ranges ≡ true → MatchOption ranges ⊤ (λ fields. SameRanges (ranges_in fields) (map range_of new.fixups.items))
      by None none = tt
      by (Some ranges) none = absurd cc

  -- a field that was compared with all others
  pub is_some-met : (found : FoundFixups A) (f : Fixup) → is_some found.fields ≡ true → IsMet found f.field (width_of f.kind) false → meets_any f.field (width_of f.kind) (map range_of found.fixups.items) ≡ false
  is_some-met found f some met = by found.fields some met
    where
      by : (was : Option (Ranges A)) → is_some was ≡ true → MatchOption was (false ≡ false) (λ _. false ≡ meets_any f.field (width_of f.kind) (map range_of found.fixups.items))
          → meets_any f.field (width_of f.kind) (map range_of found.fixups.items) ≡ false
      by None some met = absurd cc
      by (Some ranges) some met = sym met

  -- a field that begins after all others meets none
  pub behind-met : (found : FoundFixups A) (field width : ℕ) → IsIndexed found → found.end ≤ field → IsMet found field width false
  behind-met found field width indexed le = by found.fields
    where
      by : (was : Option (Ranges A)) → MatchOption was (false ≡ false) (λ _. false ≡ meets_any field width (map range_of found.fixups.items))
      by None = refl
      by (Some ranges) = sym (behind-apart field width found.fixups.items (ends-later found.end field found.fixups.items le indexed.ends))
