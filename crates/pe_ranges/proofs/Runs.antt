-- In a run of ascending ranges those that start below an RVA come first, and the last one of them ends last.
use Rattle.std.proofs.Common.{◌≡◌, ℕ, zero, suc, ◌+◌, ◌-◌, ◌<◌, ◌≤◌, Bool, true, false, ◌||◌, List, [], ◌∷◌, ◌++◌, length, take, get_or, refl, sym, ap, subst, ◌∙◌, inl, inr, arith}
use Rattle.std.specs.Prelude.{nat_lt, filter, All, if◌then◌else◌}
use Rattle.std.specs.List.{list_any}
use Rattle.std.proofs.lemmas.Bool.{cases_eq}
use Rattle.std.proofs.lemmas.List.{take_more}
use Rattle.std.proofs.lemmas.List.Elements.{All-nil, All-cons, All-tail}
use Rattle.std.proofs.lemmas.List.Folds.{list_any-append}
use Rattle.pe_ranges.specs.Ranges.{meets_any, range_end, IsAscending, FitsBeside, Gains}
use Rattle.pe_ranges.proofs.Neighbours.{Before, meets_any-none, meets_any-last, swapped}
use Rattle.pe_ranges.proofs.Pairs.{AllPairs-snoc}

-- where a test passes the first k elements and no later one
pub filter-front : {X : Type 0} (p : X → Bool) (xs : List X) (k : ℕ) → ((i : ℕ) (d : X) → i < k → i < length xs → p (get_or xs i d) ≡ true) → ((i : ℕ) (d : X) → k ≤ i → i < length xs → p (get_or xs i d) ≡ false) → filter p xs ≡ take k xs
filter-front p [] zero these others = refl
filter-front p [] (suc k) these others = refl
filter-front p (x ∷ xs) zero these others =
    rw (others 0 x (omega arith) (omega arith)) (filter-front p xs zero (λ i d lt. absurd (omega arith)) (λ i d le lt. others (suc i) d (omega arith) (omega arith)))
filter-front p (x ∷ xs) (suc k) these others =
    rw (these 0 x (omega arith) (omega arith)) (ap (λ (ys : _). x ∷ ys) (filter-front p xs k (λ i d below lt. these (suc i) d (omega arith) (omega arith)) (λ i d le lt. others (suc i) d (omega arith) (omega arith))))

-- the last range starts last
pub starts_below : (run : List (ℕ × ℕ)) (last : ℕ × ℕ) (rva : ℕ) → IsAscending run → 0 < length run → ((d : ℕ × ℕ) → last ≡ get_or run (length run - 1) d) → last.0 < rva → All (λ range. range.0 < rva) run
starts_below run last rva ascending some is below = λ k d lt. elim (cases_eq k (length run - 1)) [
  | inl same ↦ (let here : last ≡ get_or run k d = is d ∙ ap (λ (i : ℕ). get_or run i d) (sym same) in rw (← here) below)
  | inr other ↦ (let pair = ascending k (length run - 1) d (omega arith) (omega arith) in let start : last.0 ≡ (get_or run (length run - 1) d).0 = ap (λ (r : ℕ × ℕ). r.0) (is d) in let less = pair.0 in omega arith)
]

-- the first range starts first
pub starts_behind : (run : List (ℕ × ℕ)) (first : ℕ × ℕ) (rva : ℕ) → IsAscending run → ((d : ℕ × ℕ) → first ≡ get_or run 0 d) → rva ≤ first.0 → All (λ range. rva ≤ range.0) run
starts_behind run first rva ascending is behind = λ k d lt. elim (cases_eq k 0) [
  | inl same ↦ (let here : first ≡ get_or run k d = is d ∙ ap (λ (i : ℕ). get_or run i d) (sym same) in rw (← here) behind)
  | inr other ↦ (let pair = ascending 0 k d (omega arith) lt in let start : first.0 ≡ (get_or run 0 d).0 = ap (λ (r : ℕ × ℕ). r.0) (is d) in let less = pair.0 in omega arith)
]

pub last_starts_below : (run : List (ℕ × ℕ)) (last : ℕ × ℕ) (rva : ℕ) → 0 < length run → ((d : ℕ × ℕ) → last ≡ get_or run (length run - 1) d) → All (λ range. range.0 < rva) run → last.0 < rva
last_starts_below run last rva some is below =
    let less : (get_or run (length run - 1) last).0 < rva = below (length run - 1) last (omega arith) in
    rw (← is last) at less

-- the last of those that start before the bytes end decides
pub run_meets-none : (run : List (ℕ × ℕ)) (start len count : ℕ) → filter (λ range. nat_lt range.0 (start + len)) run ≡ take count run → count ≡ 0 → meets_any start len run ≡ false
run_meets-none run start len count these none = meets_any-none start len run (these ∙ ap (λ (n : ℕ). take n run) none)

pub run_meets-last : (run : List (ℕ × ℕ)) (start len count : ℕ) (d : ℕ × ℕ) → IsAscending run → filter (λ range. nat_lt range.0 (start + len)) run ≡ take count run → 0 < count → count ≤ length run
    → meets_any start len run ≡ nat_lt start (range_end (get_or run (count - 1) d))
run_meets-last run start len count d ascending these some within =
    let whole : count - 1 + 1 ≡ count = omega arith in
    meets_any-last start len run (take (count - 1) run) (get_or run (count - 1) d) ascending
    (these ∙ ap (λ (n : ℕ). take n run) (sym whole) ∙ take_more run (count - 1) d (omega arith))

-- a run is continued by a range that starts after all of it
pub ascending-push : (run : List (ℕ × ℕ)) (start len : ℕ) → IsAscending run → All (λ range. range.0 < start) run → All (FitsBeside start len) run → IsAscending (run ++ (start, len) ∷ [])
ascending-push run start len ascending below fits =
    AllPairs-snoc Before run (start, len) ascending (λ k d lt. let less = below k d lt in let fit = fits k d lt in (less, fit.above less))

-- what fits beside all ranges fits beside those of the run, and beside the others
pub fits_run : (P : ℕ × ℕ → Type 0) (run others : List (ℕ × ℕ)) → All P (run ++ others) → All P run
fits_run P [] others all = All-nil P
fits_run P (r ∷ run) others all = All-cons P r run (all 0 r (omega arith)) (fits_run P run others (All-tail P r (run ++ others) all))

pub fits_others : (P : ℕ × ℕ → Type 0) (run others : List (ℕ × ℕ)) → All P (run ++ others) → All P others
fits_others P [] others all = all
fits_others P (r ∷ run) others all = fits_others P run others (All-tail P r (run ++ others) all)

at_end : (a t o : Bool) → ((a || (t || false)) || o) ≡ (t || (a || o))
at_end true true o = refl
at_end true false o = refl
at_end false true o = refl
at_end false false o = refl

pub gains-push : (run others : List (ℕ × ℕ)) (range : ℕ × ℕ) → Gains (run ++ others) ((run ++ range ∷ []) ++ others) range
gains-push run others range = λ test.
    list_any-append test (run ++ range ∷ []) others
    ∙ ap (λ (b : Bool). b || list_any test others) (list_any-append test run (range ∷ []))
    ∙ at_end (list_any test run) (test range) (list_any test others)
    ∙ ap (λ (b : Bool). test range || b) (sym (list_any-append test run others))

pub gains-others : (run old new : List (ℕ × ℕ)) (range : ℕ × ℕ) → Gains old new range → Gains (run ++ old) (run ++ new) range
gains-others run old new range gains = λ test.
    list_any-append test run new
    ∙ ap (λ (b : Bool). list_any test run || b) (gains test)
    ∙ swapped (list_any test run) (test range) (list_any test old)
    ∙ ap (λ (b : Bool). test range || b) (sym (list_any-append test run old))

-- bytes meet the run, or they meet the others
pub meets-run : (start len : ℕ) (run others : List (ℕ × ℕ)) → meets_any start len run ≡ true → meets_any start len (run ++ others) ≡ true
meets-run start len run others meets = list_any-append _ run others ∙ ap (λ (b : Bool). b || meets_any start len others) meets

pub meets-others : (start len : ℕ) (run others : List (ℕ × ℕ)) → meets_any start len run ≡ false → meets_any start len (run ++ others) ≡ meets_any start len others
meets-others start len run others apart = list_any-append _ run others ∙ ap (λ (b : Bool). b || meets_any start len others) apart

-- a run to which a range was pushed, unless memory ran out
pub ascending-pushed : (pushed : Bool) (old new : List (ℕ × ℕ)) (start len : ℕ) → new ≡ (if pushed then old ++ (start, len) ∷ [] else old) → IsAscending old → All (λ range. range.0 < start) old → All (FitsBeside start len) old → IsAscending new
ascending-pushed true old new start len is ascending below fits = subst IsAscending (sym is) (ascending-push old start len ascending below fits)
ascending-pushed false old new start len is ascending below fits = subst IsAscending (sym is) ascending
