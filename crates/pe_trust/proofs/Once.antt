-- What is signed in three ranges is all that is not left out.
use Rattle.std.proofs.Common.{◌≡◌, ◌∙◌, refl, ℕ, ◌+◌, ◌<◌, ◌≤◌, ◌⊎◌, Bool, true, false, List, ◌++◌, length, sym, ap, inl, inr, arith, append_assoc}
use Rattle.std.specs.Prelude.{◌&&◌, ◌||◌, not, Option, None, Some, slice_range}
use Rattle.std.proofs.lemmas.List.{append-nil}
use Rattle.std.proofs.lemmas.Bool.{cases_Bool, and_parts, le-leb, leb-true, lt-ltb, ltb-true}
use Rattle.pe_view.specs.Number.{is_in}
use Rattle.pe_head.specs.declared.directory.Directory.{Directory}
use Rattle.pe_head.specs.declared.headers.Headers.{Headers}
use Rattle.pe_head.specs.declared.optional.Magic.{Magic}
use Rattle.pe_head.specs.declared.optional.Magic.TheVariants.{Pe32, Pe32Plus}
use Rattle.pe_head.specs.Optional.{fixed_size_of}
use Rattle.pe_trust.specs.CertificateTable.{is_absent}
use Rattle.pe_trust.specs.Covered.{is_left_out, is_left_out_by}
use Rattle.pe_trust.specs.SignedBytes.{Gaps, check_sum_place, directory_place, gaps_of}
use Rattle.pe_trust.proofs.Kept.{kept_end, kept_from, kept_range, left_range}

inside : (start len offset : ℕ) → start ≤ offset → offset < start + len → is_in start len offset ≡ true
inside start len offset low high = let a = le-leb start offset low in let b = lt-ltb offset (start + len) high in rw (a, b) refl

outside : (start len offset : ℕ) → (offset < start) ⊎ (start + len ≤ offset) → is_in start len offset ≡ false
outside start len offset apart = elim (cases_Bool (is_in start len offset)) [
  | inl is ↦
      let parts = and_parts _ _ is in
      let low = leb-true start offset parts.0 in
      let high = ltb-true offset (start + len) parts.1 in
      elim apart [
        | inl before ↦ absurd (omega (arith, low, before))
        | inr behind ↦ absurd (omega (arith, high, behind))
      ]
  | inr off ↦ off
]

-- the gaps, of which the first ends where the second begins or before it, and so on, up to the end of the file
pub record InOrder (len field : ℕ) (g : Gaps) : Type 0 where
  pub first : field + 4 ≤ g.entry
  pub second : g.entry ≤ g.entry_end
  pub third : g.entry_end ≤ g.table
  pub fourth : g.table ≤ g.table_end
  pub last : g.table_end ≡ len

-- a test lets through what is between the gaps
pub record Passes (field : ℕ) (g : Gaps) (p : ℕ → Bool) : Type 0 where
  pub before_sum : (i : ℕ) → i < field → p i ≡ true
  pub sum : (i : ℕ) → field ≤ i → i < field + 4 → p i ≡ false
  pub behind_sum : (i : ℕ) → field + 4 ≤ i → i < g.entry → p i ≡ true
  pub entry : (i : ℕ) → g.entry ≤ i → i < g.entry_end → p i ≡ false
  pub behind_entry : (i : ℕ) → g.entry_end ≤ i → i < g.table → p i ≡ true
  pub table : (i : ℕ) → g.table ≤ i → i < g.table_end → p i ≡ false

pub kept_is : (file : List ℕ) (field : ℕ) (g : Gaps) (p : ℕ → Bool) → InOrder (length file) field g → Passes field g p
    → (slice_range file 0 field ++ slice_range file (field + 4) g.entry) ++ slice_range file g.entry_end g.table ≡ kept_from file p 0
kept_is file field g p o passes =
    let first = o.first in
    let second = o.second in
    let third = o.third in
    let fourth = o.fourth in
    let last = o.last in
    let a = kept_range file p 0 field (omega arith) (omega arith) (λ i le lt. passes.before_sum i lt) in
    let b = left_range file p field (field + 4) (omega arith) (omega arith) passes.sum in
    let c = kept_range file p (field + 4) g.entry first (omega arith) passes.behind_sum in
    let d = left_range file p g.entry g.entry_end second (omega arith) passes.entry in
    let e = kept_range file p g.entry_end g.table third (omega arith) passes.behind_entry in
    let f = left_range file p g.table g.table_end fourth (omega arith) passes.table in
    let end = kept_end file p g.table_end last in
    sym (
    a ∙ ap (λ (xs : List ℕ). slice_range file 0 field ++ xs) (b ∙ c ∙ ap (λ (xs : List ℕ). slice_range file (field + 4) g.entry ++ xs)
    (d ∙ e ∙ ap (λ (xs : List ℕ). slice_range file g.entry_end g.table ++ xs) (f ∙ end) ∙ append-nil (slice_range file g.entry_end g.table)))
    ∙ sym (append_assoc (slice_range file 0 field) (slice_range file (field + 4) g.entry) (slice_range file g.entry_end g.table))
    )

-- an offset is not left out
abbrev pub not_left_out : Headers → ℕ → Bool
not_left_out h offset = not (is_left_out h offset)

not_one : (b c : Bool) → b ≡ false → c ≡ false → not (b || c) ≡ true
not_one b c first second = rw (first, second) refl

-- of headers without directory 4
passes_none : (len : ℕ) (h : Headers) → Passes (check_sum_place h) (gaps_of len h None) (λ offset. not (is_left_out_by h None offset))
passes_none len h =
    let start : ℕ = check_sum_place h in
    record {
      before_sum = λ i lt. let e = outside start 4 i (inl lt) in rw e refl;
      sum = λ i le lt. let e = inside start 4 i le lt in rw e refl;
      behind_sum = λ i le lt. let e = outside start 4 i (inr le) in rw e refl;
      entry = λ i le lt. absurd (omega (arith, le, lt));
      behind_entry = λ i le lt. let e = outside start 4 i (inr le) in rw e refl;
      table = λ i le lt. absurd (omega (arith, le, lt));
    }

-- of a directory, by where its table is
passes_some : (h : Headers) (t : Directory) (table table_end : ℕ)
    → check_sum_place h + 4 ≤ directory_place h → directory_place h + 8 ≤ table
    → ((i : ℕ) → i < table → (not (is_absent t) && is_in t.rva t.size i) ≡ false)
    → ((i : ℕ) → table ≤ i → i < table_end → (not (is_absent t) && is_in t.rva t.size i) ≡ true)
    → Passes (check_sum_place h) (record { entry = directory_place h; entry_end = directory_place h + 8; table = table; table_end = table_end }) (λ offset. not (is_left_out_by h (Some t) offset))
passes_some h t table table_end first third before in_table =
    let start : ℕ = check_sum_place h in
    let place : ℕ = directory_place h in
    record {
      before_sum = λ i lt.
          let a = outside start 4 i (inl lt) in
          let b = outside place 8 i (inl (omega (arith, lt, first))) in
          let c = before i (omega (arith, lt, first, third)) in
          rw (a, b, c) refl;
      sum = λ i le lt. let a = inside start 4 i le lt in rw a refl;
      behind_sum = λ i le lt.
          let a = outside start 4 i (inr le) in
          let b = outside place 8 i (inl lt) in
          let c = before i (omega (arith, lt, third)) in
          rw (a, b, c) refl;
      entry = λ i le lt.
          let a = outside start 4 i (inr (omega (arith, le, first))) in
          let b = inside place 8 i le lt in
          rw (a, b) refl;
      behind_entry = λ i le lt.
          let a = outside start 4 i (inr (omega (arith, le, first))) in
          let b = outside place 8 i (inr le) in
          let c = before i lt in
          rw (a, b, c) refl;
      table = λ i le lt.
          let a = outside start 4 i (inr (omega (arith, le, first, third))) in
          let b = outside place 8 i (inr (omega (arith, le, third))) in
          let c = in_table i le lt in
          rw (a, b, c) refl;
    }

-- CheckSum comes before the entry of directory 4
sum_first : (h : Headers) → check_sum_place h + 4 ≤ directory_place h
sum_first h = by h.magic
  where
    by : (magic : Magic) → h.pe_offset + 88 + 4 ≤ h.pe_offset + 24 + fixed_size_of magic + 32
    by Pe32 = omega arith
    by Pe32Plus = omega arith

abbrev GapsPass : ℕ → Headers → Option Directory → Type 0
GapsPass len h d = InOrder len (check_sum_place h) (gaps_of len h d) × Passes (check_sum_place h) (gaps_of len h d) (λ offset. not (is_left_out_by h d offset))

pub gaps_pass : (len : ℕ) (h : Headers) (d : Option Directory) → (gaps_of len h d).entry_end ≤ (gaps_of len h d).table → (gaps_of len h d).table_end ≡ len → GapsPass len h d
gaps_pass len h None third last =
    (record { first = omega arith; second = omega arith; third = third; fourth = omega arith; last = last }, passes_none len h)
gaps_pass len h (Some t) third last = elim (cases_Bool (is_absent t)) [
  | inl none ↦
      let after : directory_place h + 8 ≤ len = rw none at third in
      rw none (
        record { first = sum_first h; second = omega arith; third = after; fourth = omega arith; last = refl },
        rw none at (passes_some h t len len (sum_first h) after (λ i lt. rw none refl) (λ i le lt. absurd (omega (arith, le, lt)))),
      )
  | inr some ↦
      let after : directory_place h + 8 ≤ t.rva = rw some at third in
      let end : t.rva + t.size ≡ len = rw some at last in
      rw some (
        record { first = sum_first h; second = omega arith; third = after; fourth = omega arith; last = end },
        rw some at (passes_some h t t.rva (t.rva + t.size) (sum_first h) after (λ i lt. rw some (outside t.rva t.size i (inl lt))) (λ i le lt. rw some (inside t.rva t.size i le lt))),
      )
]
