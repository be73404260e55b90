-- Of ascending fields only the ends have to be compared.
use Rattle.std.proofs.Common.{◌≡◌, ℕ, ◌+◌, ◌<◌, ◌≤◌, Bool, false, ◌||◌, List, [], ◌∷◌, ◌++◌, length, get_or, take, Option, Some, None, refl, sym, ap, subst, ◌∙◌, arith, length-take}
use Rattle.std.specs.Prelude.{map, max, IsTrue, MatchOption, ⊤}
use Rattle.std.specs.List.{list_any}
use Rattle.std.proofs.lemmas.Bool.{le-ltb}
use Rattle.std.proofs.lemmas.List.{get_or-take, get_or_default}
use Rattle.std.proofs.lemmas.List.Elements.{All-append, All-cons, All-nil}
use Rattle.std.proofs.lemmas.List.Folds.{list_any_none}
use Rattle.pe_ranges.specs.Ranges.{meets, meets_any, range_end, Gains, SameRanges}
use Rattle.pe_ranges.specs.RangesView.{ranges_in}
use Rattle.pe_tables.specs.Fixups.{width_of, range_of}
use Rattle.pe_tables.specs.declared.fixups.Fixup.{Fixup}
use Rattle.pe_ranges.specs.declared.ranges.Ranges.{Ranges}
use Rattle.pe_tables.specs.declared.found_fixups.FoundFixups.{FoundFixups}
use Rattle.pe_tables.specs.FixupReading.{EndAt, AreRising, FitsBesideAny, GainsAny, IsIndexed, Tells, Reads}
use Rattle.pe_tables.proofs.Beside.{all_beside, fields_long, list_any-map, width_some}
use Rattle.pe_ranges.proofs.Neighbours.{swapped}
use Rattle.pe_ranges.proofs.Pairs.{AllPairs-snoc}

-- a range that begins after all fields meets none
pub behind-apart : (start len : ℕ) (fixups : List Fixup) → EndAt start fixups → meets_any start len (map range_of fixups) ≡ false
behind-apart start len fixups ends =
    list_any-map (λ range. meets start len range.0 range.1) range_of fixups
    ∙ list_any_none (λ (f : Fixup). meets start len f.field (width_of f.kind)) fixups
    (λ k d lt. let le = ends k d lt in rw (le-ltb start ((get_or fixups k d).field + width_of (get_or fixups k d).kind) le) refl)

-- of ascending fields the first ones end where one of the others begins, or before it
pub ends-before : (k : ℕ) (fixups : List Fixup) (d : Fixup) → AreRising fixups → k < length fixups → EndAt (get_or fixups k d).field (take k fixups)
ends-before k fixups d rising within = λ j e lt.
    let before : j < k = omega (arith, length-take {A = Fixup}) in
    let here : get_or (take k fixups) j e ≡ get_or fixups j e = get_or-take k fixups j e before in
    let later : get_or fixups k e ≡ get_or fixups k d = get_or_default fixups k e d within in
    let behind : range_end (range_of (get_or fixups j e)) ≤ (get_or fixups k e).field = rising j k e before within in
    rw here (rw later at behind)

-- fields end no later than a greater RVA
pub ends-later : (end later : ℕ) (fixups : List Fixup) → end ≤ later → EndAt end fixups → EndAt later fixups
ends-later end later fixups le ends = λ k d lt. let here = ends k d lt in omega arith

-- one more field
pub ends-snoc : (end : ℕ) (fixups : List Fixup) (f : Fixup) → EndAt end fixups → EndAt (max end (range_end (range_of f))) (fixups ++ f ∷ [])
ends-snoc end fixups f ends =
    let later : ℕ = max end (range_end (range_of f)) in
    All-append (λ (g : Fixup). range_end (range_of g) ≤ later) fixups (f ∷ [])
    (ends-later end later fixups (omega arith) ends) (All-cons (λ (g : Fixup). range_end (range_of g) ≤ later) f [] (omega arith) (All-nil _))

pub rising-snoc : (fixups : List Fixup) (f : Fixup) → AreRising fixups → EndAt f.field fixups → AreRising (fixups ++ f ∷ [])
rising-snoc fixups f rising ends = AllPairs-snoc (λ (g later : Fixup). range_end (range_of g) ≤ later.field) fixups f rising ends

-- a test of the fields with one more
snoc-any : (test : ℕ × ℕ → Bool) (before : List Fixup) (f : Fixup) → list_any test (map range_of (before ++ f ∷ [])) ≡ list_any test (range_of f ∷ map range_of before)
snoc-any test [] f = refl
snoc-any test (b ∷ before) f =
    ap (λ (any : Bool). test (range_of b) || any) (snoc-any test before f)
    ∙ swapped (test (range_of b)) (test (range_of f)) (list_any test (map range_of before))

-- the ranges gain a field as the fixups do
ranges-more : (before : List Fixup) (f : Fixup) (old new : List (ℕ × ℕ)) → SameRanges old (map range_of before) → Gains old new (range_of f) → SameRanges new (map range_of (before ++ f ∷ []))
ranges-more before f old new same gains = λ test.
    gains test ∙ ap (λ (any : Bool). test (range_of f) || any) (same test) ∙ sym (snoc-any test before f)

-- a field that meets no other fits beside the ranges
pub fits-any : {A : Type 0} (fields : Option (Ranges A)) (fixups : List Fixup) (f : Fixup)
    → MatchOption fields ⊤ (λ ranges. SameRanges (ranges_in ranges) (map range_of fixups))
    → MatchOption fields (false ≡ false) (λ _. false ≡ meets_any f.field (width_of f.kind) (map range_of fixups)) → FitsBesideAny f.field (width_of f.kind) fields
fits-any None fixups f same apart = tt
fits-any (Some ranges) fixups f same apart = all_beside f.field (width_of f.kind) (ranges_in ranges) (map range_of fixups) same (sym apart) (fields_long fixups) (width_some f.kind)

-- one more fixup was read
pub reads-more : {A : Type 0} (old new : FoundFixups A) (f : Fixup) → IsIndexed old → Tells old f.field
    → new.fixups.items ≡ old.fixups.items ++ f ∷ [] → new.end ≡ max old.end (range_end (range_of f)) → new.ascending ≡ old.ascending → GainsAny old.fields new.fields (range_of f) → Reads old new (f ∷ [])
reads-more {A} old new f indexed tells items end ascending gains = record {
  fixups = items;
  indexed = record {
    ends = rw (items, end) (ends-snoc old.end old.fixups.items f indexed.ends);
    rising = λ yes. (
        let was : IsTrue old.ascending = subst IsTrue ascending yes in
        rw items (rising-snoc old.fixups.items f (indexed.rising was) (ends-later old.end f.field old.fixups.items (tells was) indexed.ends)));
    fields = rw items (by old.fields indexed.fields gains);
  };
}
  where
    more : List Fixup
    more = old.fixups.items ++ f ∷ []

    by : (fields : Option (Ranges A)) → MatchOption fields ⊤ (λ ranges. SameRanges (ranges_in ranges) (map range_of old.fixups.items))
        → GainsAny fields new.fields (range_of f) → MatchOption new.fields ⊤ (λ ranges. SameRanges (ranges_in ranges) (map range_of more))
    by None none gains = rw gains tt
    by (Some ranges) same gains = rw gains.1 (ranges-more old.fixups.items f (ranges_in ranges) (ranges_in gains.0) same gains.2)
