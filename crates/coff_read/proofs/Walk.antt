-- The records of a table in order: what is left of its tests, and of the list that is read.
use Rattle.std.proofs.Common.{◌≡◌, ◌∙◌, refl, true, false, length, ℕ, zero, suc, ◌+◌, ◌-◌, ◌<◌, ◌≤◌, List, [], ◌∷◌, ◌++◌, Option, Some, None, sym, ap, append_assoc, zero-add, arith}
use Rattle.std.specs.Prelude.{map, not, nat_lt, slice_get, ◌==◌}
use Rattle.std.proofs.lemmas.Bool.{ne_eqb, ltb-false}
use Rattle.std.specs.List.{flat_map, range_with_len}
use Rattle.std.proofs.lemmas.List.{map-append, append-nil}
use Rattle.std.proofs.lemmas.List.FromFn.{get_or-map-range_with_len, length-map-range_with_len}
use Rattle.std.proofs.lemmas.Option.{slice_get-get_or}
use Rattle.pe_view.specs.Faults.{Test, first_standing}
use Rattle.pe_view.specs.FirstStanding.{first-in, first-past, none-append, none_stands}
use Rattle.pe_view.specs.declared.fault.Fault as view
use Rattle.coff_read.specs.Field.{field}
use Rattle.coff_read.specs.FormFaults.{section_tests}
use Rattle.coff_read.specs.FormReading.{aux_count, symbols_from}
use Rattle.coff_read.specs.Forms.{Form, Plain}
use Rattle.coff_read.specs.Reading as plain
use Rattle.coff_read.specs.Reading.{relocation_start}
use Rattle.coff_read.proofs.PlainForm.{same_step}

-- the indexes that are left, from one of them on
pub range_left : (i n : ℕ) → i < n → range_with_len i (n - i) ≡ i ∷ range_with_len (i + 1) (n - (i + 1))
range_left i n lt = ap (range_with_len i) (let left : n - i ≡ suc (n - (i + 1)) = omega arith in left)

-- the current record has no fault
pub pass : (tests : ℕ → List Test) (h : ℕ) (left more : List ℕ) (whole : List Test) → left ≡ h ∷ more → first_standing (tests h) ≡ None
    → first_standing (flat_map tests left) ≡ first_standing whole → first_standing (flat_map tests more) ≡ first_standing whole
pass tests h left more whole is none inv = sym (first-past (tests h) (flat_map tests more) none) ∙ ap (λ (hs : List ℕ). first_standing (flat_map tests hs)) (sym is) ∙ inv

-- the current record has one
pub stop : (tests : ℕ → List Test) (h : ℕ) (left more : List ℕ) (whole : List Test) (y : view.Fault) → left ≡ h ∷ more → first_standing (tests h) ≡ Some y
    → first_standing (flat_map tests left) ≡ first_standing whole → first_standing whole ≡ Some y
stop tests h left more whole y is some inv = sym inv ∙ ap (λ (hs : List ℕ). first_standing (flat_map tests hs)) is ∙ first-in (tests h) (flat_map tests more) y some

-- one item more has been read
pub read_more : {X Y : Type 0} (view : X → Y) (read : ℕ → Y) (h : ℕ) (old new : List X) (x : X) (left more : List ℕ) (whole : List Y) → left ≡ h ∷ more → new ≡ old ++ x ∷ [] → view x ≡ read h
    → map view old ++ map read left ≡ whole → map view new ++ map read more ≡ whole
read_more view read h old new x left more whole is pushed same inv =
    ap (λ (xs : List _). map view xs ++ map read more) pushed ∙ ap (λ (ys : List _). ys ++ map read more) (map-append view old (x ∷ []))
    ∙ append_assoc (map view old) (view x ∷ []) (map read more) ∙ ap (λ (z : _). map view old ++ z ∷ map read more) same ∙ ap (λ (hs : List ℕ). map view old ++ map read hs) (sym is) ∙ inv

-- auxiliary records begin no symbol
symbols-skip : (big : Form) (file : List ℕ) (k left skip : ℕ) → symbols_from big file k (skip + left) skip ≡ symbols_from big file (k + skip) left 0
symbols-skip big file k left zero =
    let a : 0 + left ≡ left = omega arith in
    let b : k ≡ k + 0 = omega arith in
    ap (λ (n : ℕ). symbols_from big file k n 0) a ∙ ap (λ (n : ℕ). symbols_from big file n left 0) b
symbols-skip big file k left (suc skip) =
    let a : suc skip + left ≡ suc (skip + left) = omega arith in
    let b : k + 1 + skip ≡ k + suc skip = omega arith in
    ap (λ (n : ℕ). symbols_from big file k n (suc skip)) a ∙ symbols-skip big file (k + 1) left skip ∙ ap (λ (n : ℕ). symbols_from big file n left 0) b

pub form_symbols-step : (big : Form) (file : List ℕ) (k left : ℕ) → symbols_from big file k (1 + aux_count big file k + left) 0 ≡ k ∷ symbols_from big file (k + 1 + aux_count big file k) left 0
form_symbols-step big file k left =
    let a : 1 + aux_count big file k + left ≡ suc (aux_count big file k + left) = omega arith in
    ap (λ (n : ℕ). symbols_from big file k n 0) a ∙ ap (λ (ks : List ℕ). k ∷ ks) (symbols-skip big file (k + 1) left (aux_count big file k))

-- of a plain object
pub symbols-step : (file : List ℕ) (k left : ℕ) → plain.symbols_from file k (1 + plain.aux_count file k + left) 0 ≡ k ∷ plain.symbols_from file (k + 1 + plain.aux_count file k) left 0
symbols-step file k left = same_step file _ _ _ _ (form_symbols-step Plain file k left)

-- the records after a symbol's auxiliary ones
pub symbols_next : (big : Form) (file : List ℕ) (k next records : ℕ) → next ≡ k + 1 + aux_count big file k → next ≤ records
    → symbols_from big file k (records - k) 0 ≡ k ∷ symbols_from big file next (records - next) 0
symbols_next big file k next records is within =
    let left : records - k ≡ 1 + aux_count big file k + (records - next) = omega arith in
    ap (λ (n : ℕ). symbols_from big file k n 0) left ∙ form_symbols-step big file k (records - next) ∙ ap (λ (n : ℕ). k ∷ symbols_from big file n (records - next) 0) (sym is)

-- the record that is read begins a symbol
pub symbols_some : (big : Form) (file : List ℕ) (k records : ℕ) → k < records → symbols_from big file k (records - k) 0 ≡ k ∷ symbols_from big file (k + 1) (records - (k + 1)) (aux_count big file k)
symbols_some big file k records lt = ap (λ (n : ℕ). symbols_from big file k n 0) (let left : records - k ≡ suc (records - (k + 1)) = omega arith in left)

-- the current record passes its one test
pub pass_test : (test : ℕ → Test) (k n : ℕ) (whole : Option view.Fault) → k < n → (test k).stands ≡ false → first_standing (map test (range_with_len k (n - k))) ≡ whole
    → first_standing (map test (range_with_len (k + 1) (n - (k + 1)))) ≡ whole
pass_test test k n whole lt none inv =
    let step : first_standing (map test (range_with_len k (n - k))) ≡ first_standing (map test (range_with_len (k + 1) (n - (k + 1)))) =
    ap (λ (ks : List ℕ). first_standing (map test ks)) (range_left k n lt) ∙ rw none refl in
    sym step ∙ inv

-- the current record does not pass its one test
pub stop_test : (test : ℕ → Test) (k n : ℕ) (whole : Option view.Fault) → k < n → (test k).stands ≡ true → first_standing (map test (range_with_len k (n - k))) ≡ whole → whole ≡ Some (test k).fault
stop_test test k n whole lt stands inv = sym inv ∙ ap (λ (ks : List ℕ). first_standing (map test ks)) (range_left k n lt) ∙ rw stands refl

pub all_read : {Y : Type 0} (read : ℕ → Y) (start : ℕ → ℕ) (i n : ℕ) (front whole : List Y) → n ≤ i → front ++ map read (map start (range_with_len i (n - i))) ≡ whole → front ≡ whole
all_read read start i n front whole le inv =
    let none : n - i ≡ 0 = omega arith in
    sym (append-nil front) ∙ sym (ap (λ (k : ℕ). front ++ map read (map start (range_with_len i k))) none) ∙ inv

-- a section without a fault has its relocations in the file
pub relocations_fit : (big : Form) (file : List ℕ) (h : ℕ) → first_standing (section_tests big file h) ≡ None → 0 < field file h 32 2 → relocation_start file h (field file h 32 2) ≤ length file
relocations_fit big file h none some =
    let test = none_stands (section_tests big file h) 2 _ none refl in
    let count : not (field file h 32 2 == 0) ≡ true = ap not (ne_eqb (field file h 32 2) 0 (λ e. omega arith)) in
    let past : nat_lt (length file) (relocation_start file h (field file h 32 2)) ≡ false = rw count at test in
    ltb-false (length file) (relocation_start file h (field file h 32 2)) past

-- of records without a fault the current one has none
pub first_none : (tests : ℕ → List Test) (h : ℕ) (left more : List ℕ) → left ≡ h ∷ more → first_standing (flat_map tests left) ≡ None → (first_standing (tests h) ≡ None) × (first_standing (flat_map tests more) ≡ None)
first_none tests h left more is none = none-append (tests h) (flat_map tests more) (sym (ap (λ (hs : List ℕ). first_standing (flat_map tests hs)) is) ∙ none)

-- of records without a fault each has none
pub none_among : (tests : ℕ → List Test) (start : ℕ → ℕ) (from n i : ℕ) → first_standing (flat_map tests (map start (range_with_len from n))) ≡ None → i < n → first_standing (tests (start (from + i))) ≡ None
none_among tests start from zero i none lt = absurd (omega (arith, lt))
none_among tests start from (suc n) zero none lt =
    let here : from ≡ from + 0 = omega arith in
    ap (λ (k : ℕ). first_standing (tests (start k))) (sym here) ∙ (none-append (tests (start from)) (flat_map tests (map start (range_with_len (from + 1) n))) none).0
none_among tests start from (suc n) (suc i) none lt =
    let next : from + 1 + i ≡ from + suc i = omega arith in
    ap (λ (k : ℕ). first_standing (tests (start k))) (sym next)
    ∙ none_among tests start (from + 1) n i (none-append (tests (start from)) (flat_map tests (map start (range_with_len (from + 1) n))) none).1 (omega (arith, lt))

-- an item of a list that is made by index
pub made_at : {Y : Type 0} (item : ℕ → Y) (n i : ℕ) → i < n → slice_get (map item (range_with_len 0 n)) i ≡ Some (item i)
made_at item n i lt =
    let len = length-map-range_with_len item 0 n in
    slice_get-get_or (map item (range_with_len 0 n)) i (item i) (omega (arith, len, lt)) ∙ ap Some (get_or-map-range_with_len item 0 n i i (item i) lt (zero-add i))

pub made_none : {Y : Type 0} (item : ℕ → Y) (from n i : ℕ) → n ≤ i → slice_get (map item (range_with_len from n)) i ≡ None
made_none item from zero i le = refl
made_none item from (suc n) zero le = absurd (omega (arith, le))
made_none item from (suc n) (suc i) le = made_none item (from + 1) n i (omega (arith, le))
