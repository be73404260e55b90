-- One step of the walk after the other.
use Rattle.std.proofs.Common.{◌≡◌, ◌∙◌, refl, ℕ, ◌+◌, ◌*◌, ◌<◌, ◌≤◌, ◌⊎◌, inl, inr, Bool, true, false, not, ◌||◌, List, [], ◌∷◌, ◌++◌, length, get_or, sym, ap, append-nil, arith, ◌-◌, ◌/◌}
use Rattle.std.specs.Prelude.{All, ◌==◌, min}
use Rattle.std.proofs.Math.Nat.{min-le_right, min-eq_left}
use Rattle.std.specs.List.{list_any}
use Rattle.std.proofs.lemmas.Bool.{eq-eqb, ne_eqb, leb-true, le-leb, lt-leb, ltb-false, lt-ltb, cases_Bool, cases_lt}
use Rattle.std.proofs.lemmas.List.Folds.{list_any_at}
use Rattle.pe_view.specs.Standing.{standing}
use Rattle.pe_layout.specs.Image.{LaidOut, is_inside}
use Rattle.pe_ranges.specs.Ranges.{meets, meets_any, FitsBeside, SameRanges, Gains}
use Rattle.pe_resources.specs.declared.found.Found.{Found}
use Rattle.pe_resources.specs.declared.leaf.Leaf.{Leaf}
use Rattle.pe_resources.specs.declared.leaf.Path.{Path}
use Rattle.pe_resources.specs.Found.{Shows, is_empty}
use Rattle.pe_resources.specs.Leaves.{leaf_at}
use Rattle.pe_resources.specs.Section.{is_held, entry_count, whole_count}
use Rattle.pe_resources.specs.Walk.{Walk, asked, finding, read_leaf, directory_tests, whole_len, is_shared, is_entered}
use Rattle.pe_resources.proofs.Asked.{two, three}

-- a walk is shown by its three lists
pub shows-same : {A : Type 0} (found : Found A) (v w : Walk) → Shows found v → v.leaves ≡ w.leaves → v.tests ≡ w.tests → v.before ≡ w.before → Shows found w
shows-same found v w shown leaves tests before = record {
  leaves = shown.leaves ∙ leaves;
  findings = shown.findings ∙ ap standing tests;
  before = λ test. shown.before test ∙ ap (list_any test) before;
}

-- a data entry that is held
pub leaf_held : {A : Type 0} (found : Found A) (i : LaidOut) (start below : ℕ) (path : Path) (offset : ℕ) (w : Walk) (held deep strays : Bool) (leaf : Leaf)
    → held ≡ is_held i start offset 16 → held ≡ true → deep ≡ not (below == 0) → leaf ≡ leaf_at i start path offset → strays ≡ not (is_inside i leaf.rva leaf.size)
    → Shows found (asked (finding i start 188 offset strays ∷ []) (asked (finding i start 186 offset deep ∷ []) (record { leaves = w.leaves ++ leaf ∷ []; tests = w.tests ++ finding i start 184 offset (not held) ∷ []; before = w.before })))
    → Shows found (read_leaf i start below path offset w)
leaf_held found i start below path offset w held deep strays leaf is whole deeper same outside shown =
    let there : is_held i start offset 16 ≡ true = sym is ∙ whole in
    shows-same found (asked (finding i start 188 offset strays ∷ []) (asked (finding i start 186 offset deep ∷ []) (record { leaves = w.leaves ++ leaf ∷ []; tests = w.tests ++ finding i start 184 offset (not held) ∷ []; before = w.before })))
    (read_leaf i start below path offset w) shown
    (rw (there, same) refl)
    (three w.tests (finding i start 184 offset (not held)) (finding i start 186 offset deep) (finding i start 188 offset strays) ∙ rw (outside, same, deeper, is, there) refl)
    refl

-- one that is not
pub leaf_missing : {A : Type 0} (found : Found A) (i : LaidOut) (start below : ℕ) (path : Path) (offset : ℕ) (w : Walk) (held : Bool)
    → held ≡ is_held i start offset 16 → held ≡ false
    → Shows found (asked (finding i start 184 offset (not held) ∷ []) w)
    → Shows found (read_leaf i start below path offset w)
leaf_missing found i start below path offset w held is missing shown =
    let gone : is_held i start offset 16 ≡ false = sym is ∙ missing in
    shows-same found (asked (finding i start 184 offset (not held) ∷ []) w) (read_leaf i start below path offset w) shown
    (rw gone (sym (append-nil w.leaves)))
    (rw (is, gone) refl)
    refl

-- a range that meets none of others fits beside them, where none is empty
none_at : {X : Type 0} (p : X → Bool) (xs : List X) (k : ℕ) (d : X) → list_any p xs ≡ false → k < length xs → p (get_or xs k d) ≡ false
none_at p xs k d none lt = elim (cases_Bool (p (get_or xs k d))) [
  | inl passes ↦ (let some = list_any_at p xs k d lt passes in absurd cc)
  | inr fails ↦ fails
]

apart_range : (start len start' len' : ℕ) → meets start len start' len' ≡ false → (start' + len' ≤ start) ⊎ (start + len ≤ start')
apart_range start len start' len' test = elim (cases_lt start (start' + len')) [
  | inl before ↦ (let e = lt-ltb _ _ before in let f = rw e at test in inr (ltb-false _ _ f))
  | inr past ↦ inl past
]

beside_apart : (start len : ℕ) (range : ℕ × ℕ) → meets start len range.0 range.1 ≡ false → is_empty range ≡ false → 0 < len → FitsBeside start len range
beside_apart start len range test some lt =
    let long = ltb-false _ _ some in
    elim (apart_range start len range.0 range.1 test) [
      | inl before ↦ record { above = λ _. omega arith; below = λ after. absurd (omega arith); same = λ e. absurd (omega arith) }
      | inr behind ↦ record { above = λ after. absurd (omega arith); below = λ _. omega arith; same = λ e. absurd (omega arith) }
    ]

pub all_beside : (start len : ℕ) (ranges : List (ℕ × ℕ)) → meets_any start len ranges ≡ false → list_any is_empty ranges ≡ false → 0 < len → All (FitsBeside start len) ranges
all_beside start len ranges apart long some = λ k d lt.
    beside_apart start len (get_or ranges k d)
    (none_at (λ range. meets start len range.0 range.1) ranges k d apart lt)
    (none_at is_empty ranges k d long lt) some

-- whether a directory is shared, by the ranges that are held
pub shared_is : (i : LaidOut) (start offset : ℕ) (ranges before : List (ℕ × ℕ)) (count : ℕ) (shared : Bool) → shared ≡ meets_any offset (16 + 8 * count) ranges → count ≡ whole_count i start offset → SameRanges ranges before → shared ≡ is_shared i start before offset
shared_is i start offset ranges before count shared met whole same =
    met ∙ ap (λ (n : ℕ). meets_any offset (16 + 8 * n) ranges) whole ∙ same (λ range. meets offset (whole_len i start offset) range.0 range.1)

-- a directory is held whole where all entries are held that it says to have
pub whole_is : (i : LaidOut) (start offset count said : ℕ) → is_held i start offset 16 ≡ true → count ≡ whole_count i start offset → said ≡ entry_count i start offset → (count == said) ≡ is_held i start offset (16 + 8 * said)
whole_is i start offset count said there whole counted =
    let run : ℕ = i.raw_left start in
    let room : ℕ = (run - offset - 16) / 8 in
    let begins : offset + 16 ≤ run = leb-true _ _ there in
    let least : count ≡ min said room = whole ∙ ap (λ (n : ℕ). min n room) (sym counted) in
    elim (cases_lt room said) [
      | inl few ↦
          let other : count ≡ said → ⊥ = (λ same. let le = min-le_right said room in omega (arith, le, few, least, same)) in
          ne_eqb count said other ∙ sym (lt-leb (offset + (16 + 8 * said)) run (omega (arith, begins, few)))
      | inr enough ↦
          let same : count ≡ said = least ∙ min-eq_left enough in
          eq-eqb count said same ∙ sym (le-leb (offset + (16 + 8 * said)) run (omega (arith, begins, enough)))
    ]

-- a directory whose first bytes are held is asked for two findings
pub directory_asked : {A : Type 0} (found : Found A) (i : LaidOut) (start offset : ℕ) (w : Walk) (held whole shared : Bool) (count : ℕ)
    → held ≡ is_held i start offset 16 → held ≡ true → whole ≡ is_held i start offset (16 + 8 * count) → count ≡ entry_count i start offset → shared ≡ is_shared i start w.before offset
    → Shows found (asked (finding i start 185 offset shared ∷ []) (asked (finding i start 182 offset (not whole) ∷ []) w))
    → Shows found (asked (directory_tests i start w.before offset) w)
directory_asked found i start offset w held whole shared count is there all counted met shown =
    let here : is_held i start offset 16 ≡ true = sym is ∙ there in
    let wholly : whole ≡ is_held i start offset (16 + 8 * entry_count i start offset) = all ∙ ap (λ (n : ℕ). is_held i start offset (16 + 8 * n)) counted in
    shows-same found (asked (finding i start 185 offset shared ∷ []) (asked (finding i start 182 offset (not whole) ∷ []) w)) (asked (directory_tests i start w.before offset) w) shown
    refl
    (two w.tests (finding i start 182 offset (not whole)) (finding i start 185 offset shared) ∙ rw (here, wholly, met) refl)
    refl

-- one whose first bytes are not, for one
pub directory_missing : {A : Type 0} (found : Found A) (i : LaidOut) (start offset : ℕ) (w : Walk) (held : Bool)
    → held ≡ is_held i start offset 16 → held ≡ false
    → Shows found (asked (finding i start 182 offset true ∷ []) w)
    → (is_entered i start w.before offset ≡ false) × Shows found (asked (directory_tests i start w.before offset) w)
directory_missing found i start offset w held is missing shown =
    let gone : is_held i start offset 16 ≡ false = sym is ∙ missing in
    (rw gone refl, shows-same found (asked (finding i start 182 offset true ∷ []) w) (asked (directory_tests i start w.before offset) w) shown refl (rw gone refl) refl)

pub entered_is : (i : LaidOut) (start offset : ℕ) (before : List (ℕ × ℕ)) (held shared : Bool) → held ≡ is_held i start offset 16 → held ≡ true → shared ≡ is_shared i start before offset → is_entered i start before offset ≡ not shared
entered_is i start offset before held shared is there met =
    let here : is_held i start offset 16 ≡ true = sym is ∙ there in
    rw (here, met) refl

-- the ranges with that of a directory
pub ranges_more : (old new before : List (ℕ × ℕ)) (start len len' : ℕ) → Gains old new (start, len) → len ≡ len' → SameRanges old before → SameRanges new ((start, len') ∷ before)
ranges_more old new before start len len' gains same shown = λ test.
    gains test ∙ ap (λ (b : Bool). test (start, len) || b) (shown test) ∙ ap (λ (n : ℕ). test (start, n) || list_any test before) same
