-- The runs of an image.
use Rattle.std.proofs.Common.{◌≡◌, ℕ, ◌+◌, ◌-◌, ◌<◌, ◌≤◌, Bool, true, false, cond, length, take, drop, ◌++◌, List, Some, None, refl, sym, ap, ◌∙◌, append_assoc, append-nil, [], length-append, Result, Ok, Err, is_ok, arith}
use Rattle.std.specs.Prelude.{nat_lt, map, min, replicate, OnOk}
use Rattle.std.specs.List.{range_with_len}
use Rattle.std.proofs.lemmas.Bool.{lt-ltb, le-ltb, ltb-true, ltb-false}
use borrow.Rule.Slice.PartMut.{put_mid}
use Rattle.std.proofs.lemmas.List.{drop_all, take_all, length-drop, take-take, take-replicate, drop-drop}
use Rattle.std.proofs.lemmas.List.FromFn.{take-map-range_with_len, length-map-range_with_len}
use Rattle.std.proofs.Math.Seq.{take-append_seam, drop-append_seam}
use Rattle.pe_view.specs.Number.{part}
use Rattle.pe_head.specs.declared.section.SectionHeader.{SectionHeader}
use Rattle.pe_head.specs.declared.headers.Headers.{Headers}
use Rattle.pe_head.specs.Section.{extent, rawlen}
use Rattle.pe_layout.specs.declared.fill.Run.TheVariants.{Raw, Zeros}
use Rattle.pe_layout.specs.Piece.{end_of}
use Rattle.pe_layout.specs.Plain.{plain, plain_bytes, IsIn}
use Rattle.pe_layout.specs.Sections.{IsInSection, IsInGap}
use Rattle.pe_layout.specs.Run.{IsRun, IsRunOf, IsRawRun, rest_of}
use Rattle.pe_layout.proofs.Parts.{map_is_part, map_is_zeros, map_split}
use Rattle.pe_layout.proofs.Pieces.{plain-behind}

-- the headers from an RVA on
pub header_run : (h : Headers) (file : List ℕ) (r n : ℕ) → h.size_of_headers ≤ length file → h.size_of_headers ≤ h.size_of_image → 0 < n → r + n ≤ h.size_of_headers → IsRawRun h file r r n
header_run h file r n held inside some lt = record {
  run = record {
    some = some;
    inside = omega arith;
    bytes_are = map_is_part (plain h file) file r r n (λ _. omega arith)
        (λ k below. let test : nat_lt (r + k) h.size_of_headers ≡ true = lt-ltb _ _ (omega arith) in rw test refl);
  };
  held = omega arith;
}

min_test : (b : Bool) (m x : ℕ) → cond b 0 (min m x) ≤ m
min_test true m x = omega arith
min_test false m x = omega arith

pub rawlen_le : (s : SectionHeader) → rawlen s ≤ extent s
rawlen_le s = min_test _ (extent s) s.size_of_raw_data

module _ (h : Headers) (file : List ℕ) (s : SectionHeader) where
  -- the raw data of a section from an RVA on
  pub raw_bytes : (r r' n : ℕ) → h.size_of_headers ≤ r → IsInSection h (length file) r s → r ≤ r' → 0 < n → r' - s.virtual_address + n ≤ rawlen s
      → plain_bytes h file r' n ≡ part file (s.pointer_to_raw_data + (r' - s.virtual_address)) n
  raw_bytes r r' n past found later some lt =
      let low = found.inside.low in
      let le = rawlen_le s in
      let fits : s.pointer_to_raw_data + rawlen s ≤ length file = found.raw (omega arith) in
      let offset : ℕ = s.pointer_to_raw_data + (r' - s.virtual_address) in
      map_is_part (plain h file) file r' offset n (λ _. omega arith)
      (λ k below.
      let here : IsIn (r' + k) s = record { low = omega arith; high = omega arith } in
      let test : nat_lt (r' + k - s.virtual_address) (rawlen s) ≡ true = lt-ltb _ _ (omega arith) in
      let place : s.pointer_to_raw_data + (r' + k - s.virtual_address) ≡ offset + k = omega arith in
      plain-behind h file (r' + k) (Some s) (omega arith) (found.section (r' + k) here) ∙ rw (test, place) refl)

  -- the zeros after it, from an RVA on
  pub zero_bytes : (r r' n : ℕ) → h.size_of_headers ≤ r → IsInSection h (length file) r s → r ≤ r' → rawlen s ≤ r' - s.virtual_address → r' + n ≤ end_of s
      → plain_bytes h file r' n ≡ replicate n 0
  zero_bytes r r' n past found later le lt =
      let low = found.inside.low in
      map_is_zeros (plain h file) r' n
      (λ k below.
      let here : IsIn (r' + k) s = record { low = omega arith; high = omega arith } in
      let test : nat_lt (r' + k - s.virtual_address) (rawlen s) ≡ false = le-ltb _ _ (omega arith) in
      plain-behind h file (r' + k) (Some s) (omega arith) (found.section (r' + k) here) ∙ rw test refl)

  pub raw_run : (r n : ℕ) → h.size_of_headers ≤ r → IsInSection h (length file) r s → 0 < n → r - s.virtual_address + n ≤ rawlen s
      → IsRawRun h file r (s.pointer_to_raw_data + (r - s.virtual_address)) n
  raw_run r n past found some lt =
      let low = found.inside.low in
      let le = rawlen_le s in
      let fits : s.pointer_to_raw_data + rawlen s ≤ length file = found.raw (omega arith) in
      let ends = found.ends in
      record {
        run = record { some = some; inside = omega arith; bytes_are = raw_bytes r r n past found (omega arith) some lt };
        held = omega arith;
      }

  zero_run : (r n : ℕ) → h.size_of_headers ≤ r → IsInSection h (length file) r s → 0 < n → rawlen s ≤ r - s.virtual_address → r + n ≤ end_of s
      → IsRunOf h file r n (replicate n 0)
  zero_run r n past found some le lt =
      let ends = found.ends in
      record { some = some; inside = omega arith; bytes_are = zero_bytes r r n past found (omega arith) le lt }

  by_test : (r o m n : ℕ) (b : Bool) → (b ≡ true → IsRawRun h file r o m) → (b ≡ false → IsRunOf h file r n (replicate n 0)) → IsRun h file r (cond b (Raw o m) (Zeros n))
  by_test r o m n true raw zeros = raw refl
  by_test r o m n false raw zeros = zeros refl

  -- what remains of a section
  pub section_run : (r : ℕ) → h.size_of_headers ≤ r → IsInSection h (length file) r s → IsRun h file r (rest_of s r)
  section_run r past found =
      let low = found.inside.low in
      let high = found.inside.high in
      by_test r (s.pointer_to_raw_data + (r - s.virtual_address)) (rawlen s - (r - s.virtual_address)) (extent s - (r - s.virtual_address)) (nat_lt (r - s.virtual_address) (rawlen s))
      (λ test. let lt = ltb-true _ _ test in raw_run r (rawlen s - (r - s.virtual_address)) past found (omega arith) (omega arith))
      (λ test. let le = ltb-false _ _ test in zero_run r (extent s - (r - s.virtual_address)) past found (omega arith) le (omega arith))

-- a gap
pub gap_run : (h : Headers) (file : List ℕ) (r end : ℕ) → h.size_of_headers ≤ r → IsInGap h r end → IsRunOf h file r (end - r) (replicate (end - r) 0)
gap_run h file r end past gap =
    let some = gap.some in
    let inside = gap.inside in
    record {
      some = omega arith;
      inside = omega arith;
      bytes_are = map_is_zeros (plain h file) r (end - r) (λ k below. plain-behind h file (r + k) None (omega arith) (gap.empty (r + k) (omega arith) (omega arith)));
    }

-- the beginning of a run of raw data
pub raw_beginning : (h : Headers) (file : List ℕ) (r o n m : ℕ) → IsRawRun h file r o n → m ≤ n → plain_bytes h file r m ≡ part file o m
raw_beginning h file r o n m is le =
    sym (take-map-range_with_len (plain h file) r n m le) ∙ ap (take m) is.run.bytes_are ∙ take-take m n (drop o file) le

-- the beginning of a run of zeros
pub zero_beginning : (h : Headers) (file : List ℕ) (r n m : ℕ) → IsRunOf h file r n (replicate n 0) → m ≤ n → plain_bytes h file r m ≡ replicate m 0
zero_beginning h file r n m is le =
    sym (take-map-range_with_len (plain h file) r n m le) ∙ ap (take m) is.bytes_are ∙ take-replicate m n 0 le

-- one more run is written
pub fill_step : (g : ℕ → ℕ) (rva done more : ℕ) (old buffer rest : List ℕ) → done ≤ length buffer → buffer ≡ map g (range_with_len rva done) ++ drop done old
    → rest ≡ map g (range_with_len (rva + done) more) ++ drop more (take (length buffer - done) (drop done buffer))
    → put_mid done (length buffer - done) buffer rest ≡ map g (range_with_len rva (done + more)) ++ drop (done + more) old
fill_step g rva done more old buffer rest le is next =
    let front : List ℕ = map g (range_with_len rva done) in
    let len : length front ≡ done = length-map-range_with_len g rva done in
    let seam : buffer ≡ front ++ drop done old = is in
    let first : take done buffer ≡ front = ap (take done) seam ∙ rw len at (take-append_seam front (drop done old)) in
    let left : drop done buffer ≡ drop done old = ap (drop done) seam ∙ rw len at (drop-append_seam front (drop done old)) in
    let whole : take (length buffer - done) (drop done buffer) ≡ drop done old = take_all (length buffer - done) (drop done buffer) (simp length-drop (omega arith)) ∙ left in
    let rest_is : drop more (take (length buffer - done) (drop done buffer)) ≡ drop (done + more) old = ap (drop more) whole ∙ drop-drop more done old in
    let written : List ℕ = map g (range_with_len (rva + done) more) in
    let nothing : drop (length buffer - done) (drop done buffer) ≡ [] = drop_all (length buffer - done) (drop done buffer) (simp length-drop (omega arith)) in
    ap (λ (xs : List ℕ). take done buffer ++ (rest ++ xs)) nothing ∙ ap (λ (xs : List ℕ). take done buffer ++ xs) (append-nil rest)
    ∙ ap (λ (xs : List ℕ). xs ++ rest) first ∙ ap (λ (xs : List ℕ). front ++ xs) (next ∙ ap (λ (xs : List ℕ). written ++ xs) rest_is)
    ∙ sym (append_assoc front written (drop (done + more) old)) ∙ sym (ap (λ (xs : List ℕ). xs ++ drop (done + more) old) (map_split g rva done more))

-- one more run is appended to the first bytes
pub push_step : (g : ℕ → ℕ) (first run new : List ℕ) (start n : ℕ) → start ≡ length first → first ≡ map g (range_with_len 0 (length first)) → map g (range_with_len start n) ≡ run → new ≡ first ++ run
    → new ≡ map g (range_with_len 0 (length new))
push_step g first run new start n here is next added =
    let count : length run ≡ n = ap length (sym next) ∙ length-map-range_with_len g start n in
    let all : length new ≡ length first + n = ap length added ∙ length-append first run ∙ ap (λ (m : ℕ). length first + m) count in
    let place : start ≡ 0 + length first = omega (arith, here) in
    added ∙ ap (λ (xs : List ℕ). xs ++ run) is
    ∙ ap (λ (xs : List ℕ). map g (range_with_len 0 (length first)) ++ xs) (sym next ∙ ap (λ (r : ℕ). map g (range_with_len r n)) place)
    ∙ sym (map_split g 0 (length first) n) ∙ ap (λ (m : ℕ). map g (range_with_len 0 m)) (sym all)

-- a fact about a result that is Ok
pub on_ok : {T E : Type 0} (r : Result T E) (P : Type 0) → (is_ok r ≡ true → P) → OnOk r P
on_ok (Ok x) P holds = holds refl
on_ok (Err e) P holds = tt
