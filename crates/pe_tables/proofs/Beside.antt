-- Where a range fits beside others.
use Rattle.std.proofs.Common.{◌≡◌, ℕ, ◌+◌, ◌<◌, ◌≤◌, Bool, false, not, ◌||◌, List, [], ◌∷◌, length, get_or, refl, ap, ◌∙◌, arith, lit<, inl, inr, ◌⊎◌}
use Rattle.std.specs.Prelude.{nat_lt, All, map, ◌==◌}
use Rattle.std.specs.List.{list_any}
use Rattle.std.proofs.lemmas.Bool.{ltb-false, lt-ltb, cases_Bool, cases_lt}
use Rattle.std.proofs.lemmas.Bool.Decides.{nat_tests}
use Rattle.std.proofs.lemmas.List.Folds.{list_any_at}
use Rattle.pe_ranges.specs.Ranges.{meets, meets_any, FitsBeside, SameRanges}
use Rattle.pe_tables.specs.Fixups.{width_of, range_of}
use Rattle.pe_tables.specs.declared.fixups.Fixup.{Fixup}
use Rattle.pe_tables.specs.declared.fixups.FixupKind.{FixupKind}
use Rattle.pe_tables.specs.declared.fixups.FixupKind.TheVariants.{Bits32, Bits64, High, Low}

-- no element passes a test that none passes
pub none_at : {X : Type 0} (p : X → Bool) (xs : List X) (k : ℕ) (d : X) → list_any p xs ≡ false → k < length xs → p (get_or xs k d) ≡ false
none_at p xs k d none lt = elim (cases_Bool (p (get_or xs k d))) [
  | inl passes ↦ (let some = list_any_at p xs k d lt passes in absurd cc)
  | inr fails ↦ fails
]

abbrev is_empty : ℕ × ℕ → Bool
is_empty range = nat_lt range.1 1

pub apart_range : (start len start' len' : ℕ) → meets start len start' len' ≡ false → (start' + len' ≤ start) ⊎ (start + len ≤ start')
apart_range start len start' len' test = elim (cases_lt start (start' + len')) [
  | inl before ↦ (let e = lt-ltb _ _ before in let f = rw e at test in inr (ltb-false _ _ f))
  | inr past ↦ inl past
]

beside_apart : (start len : ℕ) (range : ℕ × ℕ) → meets start len range.0 range.1 ≡ false → is_empty range ≡ false → 0 < len → FitsBeside start len range
beside_apart start len range test some lt =
    let long = ltb-false _ _ some in
    elim (apart_range start len range.0 range.1 test) [
      | inl before ↦ record { above = λ _. omega arith; below = λ after. absurd (omega arith); same = λ e. absurd (omega arith) }
      | inr behind ↦ record { above = λ after. absurd (omega arith); below = λ _. omega arith; same = λ e. absurd (omega arith) }
    ]

-- a range that meets none of others, which are not empty
pub all_beside : (start len : ℕ) (entries ranges : List (ℕ × ℕ)) → SameRanges entries ranges → meets_any start len ranges ≡ false → list_any is_empty ranges ≡ false → 0 < len → All (FitsBeside start len) entries
all_beside start len entries ranges same apart long some = λ k d lt.
    beside_apart start len (get_or entries k d)
    (none_at (λ range. meets start len range.0 range.1) entries k d (same (λ range. meets start len range.0 range.1) ∙ apart) lt)
    (none_at is_empty entries k d (same is_empty ∙ long) lt) some

beside_equal : (start len : ℕ) (range : ℕ × ℕ) → len ≡ range.1 → FitsBeside start len range
beside_equal start len range e = record { above = λ before. omega arith; below = λ after. omega arith; same = λ _. e }

-- a range as long as all others
pub all_equal : (start len : ℕ) (entries : List (ℕ × ℕ)) → list_any (λ range. not (range.1 == len)) entries ≡ false → All (FitsBeside start len) entries
all_equal start len entries none = λ k d lt. beside_equal start len (get_or entries k d) (let e = none_at (λ (range : ℕ × ℕ). not (range.1 == len)) entries k d none lt in equal _ _ e)
  where
    equal : (a b : ℕ) → not (a == b) ≡ false → b ≡ a
    equal a b e = grind (arith, nat_tests)

wide : (kind : FixupKind) → nat_lt (width_of kind) 1 ≡ false
wide High = refl
wide Low = refl
wide Bits32 = refl
wide Bits64 = refl

-- no field is empty
pub fields_long : (fixups : List Fixup) → list_any is_empty (map range_of fixups) ≡ false
fields_long [] = refl
fields_long (f ∷ fixups) = rw (wide f.kind) (fields_long fixups)

pub width_some : (kind : FixupKind) → 0 < width_of kind
width_some High = lit< tt
width_some Low = lit< tt
width_some Bits32 = lit< tt
width_some Bits64 = lit< tt

pub list_any-map : {X Y : Type 0} (p : Y → Bool) (f : X → Y) (xs : List X) → list_any p (map f xs) ≡ list_any (λ x. p (f x)) xs
list_any-map p f [] = refl
list_any-map p f (x ∷ xs) = ap (λ (b : Bool). p (f x) || b) (list_any-map p f xs)

pub equal_self : (a : ℕ) → not (a == a) ≡ false
equal_self a = grind (arith, nat_tests)
