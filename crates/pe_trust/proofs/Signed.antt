-- What is signed where the rule is unambiguous, by the ranges that are left out.
use Rattle.std.proofs.Common.{◌≡◌, ◌∙◌, refl, ℕ, ◌+◌, ◌-◌, ◌≤◌, Bool, cond, true, false, List, ◌++◌, length, sym, ap, subst, inl, inr, arith}
use Rattle.std.specs.Prelude.{Option, None, Some, slice_range, slice_get}
use Rattle.std.proofs.lemmas.Bool.{cases_Bool, and_parts, eqb-true, leb-true}
use Rattle.std.proofs.lemmas.Option.{same_Some}
use Rattle.pe_head.specs.declared.directory.Directory.{Directory}
use Rattle.pe_head.specs.declared.headers.Headers.{Headers}
use Rattle.pe_head.specs.declared.section.SectionHeader.{SectionHeader}
use Rattle.pe_trust.specs.CertificateTable.{is_absent}
use Rattle.pe_trust.specs.SignedBytes.{Gaps, ascending_sections, authenticode_bytes, bytes_hashed, check_sum_place, gaps_in, gaps_of, hashed_bytes, is_gapless, is_unambiguous, table_size}
use Rattle.pe_trust.proofs.Flat.{all_flat}

-- the rule is unambiguous
pub record Unambiguous (len : ℕ) (h : Headers) (g : Gaps) (ss : List SectionHeader) : Type 0 where
  pub gapless : is_gapless h.size_of_headers ss ≡ true
  pub inside : g.entry_end ≤ h.size_of_headers
  pub behind : bytes_hashed h.size_of_headers ss ≤ g.table
  pub last : g.table_end ≡ len

pub unambiguous : (len : ℕ) (h : Headers) (g : Gaps) (ss : List SectionHeader) → is_unambiguous len h g ss ≡ true → Unambiguous len h g ss
unambiguous len h g ss is =
    let a = and_parts _ _ is in
    let b = and_parts _ _ a.1 in
    let c = and_parts _ _ b.1 in
    record { gapless = a.0; inside = leb-true _ _ b.0; behind = leb-true _ _ c.0; last = eqb-true _ _ c.1 }

-- a table at the end of the file: what is behind the raw data, less as many bytes as it has, ends where it begins
before_table : (len hashed : ℕ) (h : Headers) (d : Option Directory) → (gaps_of len h d).table_end ≡ len → len - (table_size d + hashed) ≡ (gaps_of len h d).table - hashed
before_table len hashed h None last = omega arith
before_table len hashed h (Some t) last = elim (cases_Bool (is_absent t)) [
  | inl none ↦ rw none (omega arith)
  | inr some ↦ let at : t.rva + t.size ≡ len = rw some at last in rw some (omega (arith, at))
]

-- what is signed in three ranges
abbrev pub three_ranges : List ℕ → Headers → Gaps → List ℕ
three_ranges file h g = (slice_range file 0 (check_sum_place h) ++ slice_range file (check_sum_place h + 4) g.entry) ++ slice_range file g.entry_end g.table

pub hashed_is : (file : List ℕ) (h : Headers) (ss : List SectionHeader) → is_unambiguous (length file) h (gaps_in (length file) h) ss ≡ true
    → hashed_bytes file h ss ≡ three_ranges file h (gaps_in (length file) h)
hashed_is file h ss is =
    let d = slice_get h.directories.items 4 in
    let g : Gaps = gaps_in (length file) h in
    let u = unambiguous (length file) h g ss is in
    all_flat file (slice_range file 0 (check_sum_place h) ++ slice_range file (check_sum_place h + 4) g.entry) g.entry_end h.size_of_headers g.table (table_size d) ss
    u.gapless u.inside u.behind (before_table (length file) (bytes_hashed h.size_of_headers ss) h d u.last)

some_if : (b : Bool) (x y : List ℕ) → cond b (Some x) None ≡ Some y → (b ≡ true) × (x ≡ y)
some_if true x y e = (refl, same_Some x y e)
some_if false x y e = absurd cc

some_gaps : (b : Bool) (x y : Gaps) → Some x ≡ cond b (Some y) None → (b ≡ true) × (x ≡ y)
some_gaps true x y e = (refl, same_Some x y e)
some_gaps false x y e = absurd cc

-- a file of which something is signed
pub record IsSigned (file : List ℕ) (h : Headers) (signed : List ℕ) : Type 0 where
  pub ranges : signed ≡ three_ranges file h (gaps_in (length file) h)
  pub rule : Unambiguous (length file) h (gaps_in (length file) h) (ascending_sections h)

pub is_signed : (file : List ℕ) (h : Headers) (signed : List ℕ) → authenticode_bytes file h ≡ Some signed → IsSigned file h signed
is_signed file h signed e =
    let ss = ascending_sections h in
    let g = gaps_in (length file) h in
    let parts = some_if (is_unambiguous (length file) h g ss) (hashed_bytes file h ss) signed e in
    record { ranges = sym parts.1 ∙ hashed_is file h ss parts.0; rule = unambiguous (length file) h g ss parts.0 }

-- the gaps that the code finds
pub told_ranges : (file : List ℕ) (h : Headers) (g : Gaps) (len : ℕ) → len ≡ length file
    → Some g ≡ cond (is_unambiguous len h (gaps_in len h) (ascending_sections h)) (Some (gaps_in len h)) None
    → authenticode_bytes file h ≡ Some (three_ranges file h g)
told_ranges file h g len is e =
    let ss = ascending_sections h in
    let own : Gaps = gaps_in (length file) h in
    let at : Some g ≡ cond (is_unambiguous (length file) h own ss) (Some own) None =
    subst (λ (n : ℕ). Some g ≡ cond (is_unambiguous n h (gaps_in n h) ss) (Some (gaps_in n h)) None) is e in
    let both = some_gaps (is_unambiguous (length file) h own ss) g own at in
    let rule : is_unambiguous (length file) h own ss ≡ true = both.0 in
    ap (λ (b : Bool). cond b (Some (hashed_bytes file h ss)) None) rule
    ∙ ap (λ (xs : List ℕ). Some xs) (hashed_is file h ss rule)
    ∙ ap (λ (one : Gaps). Some (three_ranges file h one)) (sym both.1)
