-- The end of raw data, section by section.
use Rattle.std.proofs.Common.{◌≡◌, ℕ, suc, ◌+◌, ◌-◌, ◌<◌, ◌≤◌, List, ap, subst, arith}
use Rattle.std.specs.Prelude.{max, map, nat_lt, if◌then◌else◌}
use Rattle.std.specs.List.{range_with_len}
use Rattle.std.proofs.lemmas.Bool.Decides.{nat_tests}
use Rattle.pe_head.specs.declared.section.SectionHeader.{SectionHeader}
use Rattle.pe_head.specs.Section.{rawlen}
use Rattle.pe_head.specs.Head.{section_at}
use Rattle.pe_reach.specs.Reach.{raw_end}

-- where the raw data of a section ends, or 0 if it has none
abbrev pub end_of : SectionHeader → ℕ
end_of s = if nat_lt 0 (rawlen s) then s.pointer_to_raw_data + rawlen s else 0

-- the sections of a file from i on, of n
abbrev pub sections_from : List ℕ → ℕ → ℕ → List SectionHeader
sections_from file i n = map (section_at file) (range_with_len i (n - i))

pub end_of_some : (s t : SectionHeader) (len : ℕ) → s ≡ t → len ≡ rawlen s → 0 < len → end_of t ≡ s.pointer_to_raw_data + len
end_of_some s t len same is some = subst (λ (v : SectionHeader). end_of v ≡ s.pointer_to_raw_data + len) same (grind (arith, nat_tests))

pub end_of_none : (s t : SectionHeader) (len : ℕ) → s ≡ t → len ≡ rawlen s → len ≤ 0 → end_of t ≡ 0
end_of_none s t len same is none = subst (λ (v : SectionHeader). end_of v ≡ 0) same (grind (arith, nat_tests))

-- the end so far, and that of the sections which are left, after one more section
pub after_section : (file : List ℕ) (i n end end' all : ℕ) → i < n → end' ≡ max end (end_of (section_at file i))
    → max end (raw_end (sections_from file i n)) ≡ all → max end' (raw_end (sections_from file (i + 1) n)) ≡ all
after_section file i n end end' all lt now before =
    let count : n - i ≡ suc (n - (i + 1)) = omega arith in
    let split : raw_end (sections_from file i n) ≡ max (end_of (section_at file i)) (raw_end (sections_from file (i + 1) n))
    = ap (λ (k : ℕ). raw_end (map (section_at file) (range_with_len i k))) count in
    omega (arith, split)
