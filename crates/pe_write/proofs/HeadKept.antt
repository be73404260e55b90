-- The headers of a file in which only ImageBase and CheckSum were written.
use Rattle.std.proofs.Common.{◌≡◌, ℕ, zero, suc, ◌+◌, ◌*◌, ◌<◌, ◌≤◌, ◌⊎◌, Bool, true, false, cond, List, [], ◌∷◌, ◌++◌, length, refl, ap, ◌∙◌, inl, inr, arith, Some, None}
use Rattle.std.specs.Prelude.{map, min, ◌==◌, ◌&&◌, ◌||◌, nat_le, if◌then◌else◌}
use Rattle.std.specs.List.{range_with_len}
use Rattle.std.proofs.lemmas.Bool.{and_parts, or_cases, leb-true}
use Rattle.pe_view.specs.Number.{num, byte_of, part}
use Rattle.pe_view.specs.Faults.{Test}
use Rattle.pe_head.specs.declared.directory.Directory.{Directory}
use Rattle.pe_head.specs.declared.section.SectionHeader.{SectionHeader}
use Rattle.pe_head.specs.declared.headers.Headers.{Headers}
use Rattle.pe_head.specs.Optional.{fixed_size_of}
use Rattle.pe_head.specs.declared.optional.Magic.{Magic}
use Rattle.pe_head.specs.declared.optional.Magic.TheVariants.{Pe32, Pe32Plus}
use Rattle.pe_head.specs.Head.{magic_of, pe_offset, coff_field, optional_start, field, is_pe32, either_field, fixed_size, directory_count, directory_at, table_start, section_start, section_at, head_of}
use Rattle.pe_head.specs.HeaderFaults.{head_tests}
use Rattle.pe_layout.specs.Piece.{end_of}
use Rattle.pe_write.specs.Rebase.{rebased_head}
use Rattle.pe_layout.specs.SectionFaults.{section_tests, sections_tests, placing_tests, layout_tests}

-- bytes outside both fields are unchanged
pub record KeepsHead (g file : List ℕ) (base : ℕ) : Type 0 where
  pub len : length g ≡ length file
  pub late : 16 ≤ pe_offset file
  pub fixed : optional_start file + fixed_size file + 8 * directory_count file ≤ table_start file
  pub table : section_start file (coff_field file 2 2) ≤ field file 60 4
  pub num_kept : (o w : ℕ) → o + w ≤ field file 60 4 → (o + w ≤ pe_offset file + 48) ⊎ (pe_offset file + 56 ≤ o) → (o + w ≤ pe_offset file + 88) ⊎ (pe_offset file + 92 ≤ o) → num (byte_of g) o w ≡ num (byte_of file) o w
  pub part_kept : (o w : ℕ) → o + w ≤ field file 60 4 → (o + w ≤ pe_offset file + 48) ⊎ (pe_offset file + 56 ≤ o) → (o + w ≤ pe_offset file + 88) ⊎ (pe_offset file + 92 ≤ o) → part g o w ≡ part file o w
  pub data_kept : is_pe32 file ≡ true → num (byte_of g) (optional_start file + 24) 4 ≡ num (byte_of file) (optional_start file + 24) 4
  pub base_32 : is_pe32 file ≡ true → num (byte_of g) (optional_start file + 28) 4 ≡ base
  pub base_64 : is_pe32 file ≡ false → num (byte_of g) (optional_start file + 24) 8 ≡ base
  pub sum : num (byte_of g) (optional_start file + 64) 4 ≡ 0

-- an offset and a width in the optional header that overlap neither field, and do not extend past its fixed part
abbrev clear : ℕ → ℕ → ℕ → Bool
clear fixed o w = nat_le (o + w) fixed && ((nat_le (o + w) 24 || nat_le 32 o) && (nat_le (o + w) 64 || nat_le 68 o))

either_way : (a b c d : ℕ) → (nat_le a b || nat_le c d) ≡ true → (a ≤ b) ⊎ (c ≤ d)
either_way a b c d t = elim (or_cases _ _ t) [ inl x ↦ inl (leb-true _ _ x) | inr y ↦ inr (leb-true _ _ y) ]

pub fixed_of : (m : Magic) → 96 ≤ fixed_size_of m
fixed_of Pe32 = omega arith
fixed_of Pe32Plus = omega arith

module _ (g file : List ℕ) (base : ℕ) (s : KeepsHead g file base) where
  p-kept : pe_offset g ≡ pe_offset file
  p-kept =
      let late = s.late in
      let table = s.table in
      let fixed = s.fixed in
      let more = fixed_of (magic_of file) in
      s.num_kept 60 4 (omega arith) (inl (omega arith)) (inl (omega arith))

  fixed_held : optional_start file + fixed_size file + 8 * directory_count file ≤ field file 60 4
  fixed_held = let a = s.fixed in let b = s.table in omega arith

  coff-kept : (o w : ℕ) → nat_le (o + w) 20 ≡ true → coff_field g o w ≡ coff_field file o w
  coff-kept o w le =
      let lt = leb-true _ _ le in
      let held = fixed_held in
      ap (λ (p : ℕ). num (byte_of g) (p + 4 + o) w) p-kept
      ∙ s.num_kept (pe_offset file + 4 + o) w (omega arith) (inl (omega arith)) (inl (omega arith))

  cleared : (fixed o w : ℕ) → fixed ≤ fixed_size file → clear fixed o w ≡ true → field g o w ≡ field file o w
  cleared fixed o w most test =
      let parts = and_parts (nat_le (o + w) fixed) _ test in
      let both = and_parts (nat_le (o + w) 24 || nat_le 32 o) (nat_le (o + w) 64 || nat_le 68 o) parts.1 in
      let le : o + w ≤ fixed = leb-true _ _ parts.0 in
      let held = fixed_held in
      ap (λ (p : ℕ). num (byte_of g) (p + 24 + o) w) p-kept
      ∙ s.num_kept (optional_start file + o) w (omega arith)
      (elim (either_way (o + w) 24 32 o both.0) [ inl x ↦ inl (omega arith) | inr y ↦ inr (omega arith) ])
      (elim (either_way (o + w) 64 68 o both.1) [ inl x ↦ inl (omega arith) | inr y ↦ inr (omega arith) ])

  field-kept : (o w : ℕ) → clear 96 o w ≡ true → field g o w ≡ field file o w
  field-kept o w test = cleared 96 o w (fixed_of (magic_of file)) test

  pe32-kept : is_pe32 g ≡ is_pe32 file
  pe32-kept = ap (λ (v : ℕ). v == 0x10b) (field-kept 0 2 refl)

  by_form : (o w o' w' : ℕ) → (b : Bool) → is_pe32 file ≡ b → (b ≡ true → field g o w ≡ field file o w) → (b ≡ false → field g o' w' ≡ field file o' w') → cond b (field g o w) (field g o' w') ≡ cond b (field file o w) (field file o' w')
  by_form o w o' w' true is one other = one refl
  by_form o w o' w' false is one other = other refl

  either-when : (o w o' w' : ℕ) → (is_pe32 file ≡ true → field g o w ≡ field file o w) → (is_pe32 file ≡ false → field g o' w' ≡ field file o' w') → either_field g o w o' w' ≡ either_field file o w o' w'
  either-when o w o' w' one other =
      ap (λ (b : Bool). cond b (field g o w) (field g o' w')) pe32-kept
      ∙ by_form o w o' w' (is_pe32 file) refl one other

  plus_size : is_pe32 file ≡ false → 112 ≤ fixed_size file
  plus_size is = rw is (omega arith)

  either-kept : (o w o' w' : ℕ) → clear 96 o w ≡ true → clear 112 o' w' ≡ true → either_field g o w o' w' ≡ either_field file o w o' w'
  either-kept o w o' w' one other = either-when o w o' w' (λ _. field-kept o w one) (λ is. cleared 112 o' w' (plus_size is) other)

  fixed-kept : fixed_size g ≡ fixed_size file
  fixed-kept = ap (λ (b : Bool). fixed_size_of (cond b Pe32 Pe32Plus)) pe32-kept

  count-kept : directory_count g ≡ directory_count file
  count-kept = ap (λ (n : ℕ). min n 16) (either-kept 92 4 108 4 refl refl)

  -- what is after CheckSum and inside the headers
  far-kept : (o w : ℕ) → 68 ≤ o → optional_start file + o + w ≤ field file 60 4 → field g o w ≡ field file o w
  far-kept o w far held =
      ap (λ (p : ℕ). num (byte_of g) (p + 24 + o) w) p-kept
      ∙ s.num_kept (optional_start file + o) w held (inr (omega arith)) (inr (omega arith))

  plain_size : is_pe32 file ≡ true → fixed_size file ≡ 96
  plain_size is = rw is refl

  directory-kept : (k : ℕ) → k < directory_count file → directory_at g k ≡ directory_at file k
  directory-kept k lt =
      let held = fixed_held in
      let rva = either-when (96 + 8 * k) 4 (112 + 8 * k) 4 (λ is. let e = plain_size is in far-kept (96 + 8 * k) 4 (omega arith) (omega arith)) (λ is. let e = plus_size is in far-kept (112 + 8 * k) 4 (omega arith) (omega arith)) in
      let size = either-when (96 + 8 * k + 4) 4 (112 + 8 * k + 4) 4 (λ is. let e = plain_size is in far-kept (96 + 8 * k + 4) 4 (omega arith) (omega arith)) (λ is. let e = plus_size is in far-kept (112 + 8 * k + 4) 4 (omega arith) (omega arith)) in
      ap (λ (v : ℕ). let d : Directory = record { rva = v; size = either_field g (96 + 8 * k + 4) 4 (112 + 8 * k + 4) 4 } in d) rva
      ∙ ap (λ (v : ℕ). let d : Directory = record { rva = either_field file (96 + 8 * k) 4 (112 + 8 * k) 4; size = v } in d) size

  start-kept : (k : ℕ) → section_start g k ≡ section_start file k
  start-kept k = ap (λ (p : ℕ). p + 24 + coff_field g 16 2 + 40 * k) p-kept ∙ ap (λ (n : ℕ). pe_offset file + 24 + n + 40 * k) (coff-kept 16 2 refl)

  section-number : (k o w : ℕ) → o + w ≤ 40 → k < coff_field file 2 2 → num (byte_of g) (section_start g k + o) w ≡ num (byte_of file) (section_start file k + o) w
  section-number k o w le lt =
      let held = s.table in
      let fixed = s.fixed in
      let more = fixed_of (magic_of file) in
      ap (λ (at : ℕ). num (byte_of g) (at + o) w) (start-kept k)
      ∙ s.num_kept (section_start file k + o) w (omega arith) (inr (omega arith)) (inr (omega arith))

  section-name : (k : ℕ) → k < coff_field file 2 2 → part g (section_start g k) 8 ≡ part file (section_start file k) 8
  section-name k lt =
      let held = s.table in
      let fixed = s.fixed in
      let more = fixed_of (magic_of file) in
      ap (λ (at : ℕ). part g at 8) (start-kept k)
      ∙ s.part_kept (section_start file k) 8 (omega arith) (inr (omega arith)) (inr (omega arith))

  section-kept : (k : ℕ) → k < coff_field file 2 2 → section_at g k ≡ section_at file k
  section-kept k lt =
      let a = section-name k lt in
      let b = section-number k 8 4 (omega arith) lt in
      let c = section-number k 12 4 (omega arith) lt in
      let d = section-number k 16 4 (omega arith) lt in
      let e = section-number k 20 4 (omega arith) lt in
      let f = section-number k 24 4 (omega arith) lt in
      let i = section-number k 28 4 (omega arith) lt in
      let j = section-number k 32 2 (omega arith) lt in
      let l = section-number k 34 2 (omega arith) lt in
      let m = section-number k 36 4 (omega arith) lt in
      rw (a, b, c, d, e, f, i, j, l, m) refl

  data-kept : (b : Bool) → is_pe32 file ≡ b → cond b (Some (field g 24 4)) None ≡ cond b (Some (field file 24 4)) None
  data-kept true is = ap Some (ap (λ (p : ℕ). num (byte_of g) (p + 24 + 24) 4) p-kept ∙ s.data_kept is)
  data-kept false is = refl

  base-by : (b : Bool) → is_pe32 file ≡ b → cond b (field g 28 4) (field g 24 8) ≡ base
  base-by true is = ap (λ (p : ℕ). num (byte_of g) (p + 24 + 28) 4) p-kept ∙ s.base_32 is
  base-by false is = ap (λ (p : ℕ). num (byte_of g) (p + 24 + 24) 8) p-kept ∙ s.base_64 is

  base-kept : either_field g 28 4 24 8 ≡ base
  base-kept = ap (λ (b : Bool). cond b (field g 28 4) (field g 24 8)) pe32-kept ∙ base-by (is_pe32 file) refl

  sum-kept : field g 64 4 ≡ 0
  sum-kept = ap (λ (p : ℕ). num (byte_of g) (p + 24 + 64) 4) p-kept ∙ s.sum

map_same : {X : Type 0} (f g : ℕ → X) (a n : ℕ) → ((k : ℕ) → k < a + n → f k ≡ g k) → map f (range_with_len a n) ≡ map g (range_with_len a n)
map_same f g a zero same = refl
map_same f g a (suc n) same = rw (same a (omega arith), map_same f g (a + 1) n (λ k lt. same k (omega arith))) refl

module _ (g file : List ℕ) (base : ℕ) (s : KeepsHead g file base) where
  directories-kept : map (directory_at g) (range_with_len 0 (directory_count g)) ≡ map (directory_at file) (range_with_len 0 (directory_count file))
  directories-kept =
      ap (λ (n : ℕ). map (directory_at g) (range_with_len 0 n)) (count-kept g file base s)
      ∙ map_same (directory_at g) (directory_at file) 0 (directory_count file) (λ k lt. directory-kept g file base s k (omega arith))

  sections-kept : map (section_at g) (range_with_len 0 (coff_field g 2 2)) ≡ map (section_at file) (range_with_len 0 (coff_field file 2 2))
  sections-kept =
      ap (λ (n : ℕ). map (section_at g) (range_with_len 0 n)) (coff-kept g file base s 2 2 refl)
      ∙ map_same (section_at g) (section_at file) 0 (coff_field file 2 2) (λ k lt. section-kept g file base s k (omega arith))

  f : (o w : ℕ) → clear 96 o w ≡ true → field g o w ≡ field file o w
  f o w t = field-kept g file base s o w t

  e : (o w o' w' : ℕ) → clear 96 o w ≡ true → clear 112 o' w' ≡ true → either_field g o w o' w' ≡ either_field file o w o' w'
  e o w o' w' t t' = either-kept g file base s o w o' w' t t'

  c : (o w : ℕ) → nat_le (o + w) 20 ≡ true → coff_field g o w ≡ coff_field file o w
  c o w t = coff-kept g file base s o w t

  pub head-kept : head_of g ≡ rebased_head (head_of file) base
  head-kept =
      let magic = pe32-kept g file base s in
      let start : (if is_pe32 g then Some (field g 24 4) else None) ≡ (if is_pe32 file then Some (field file 24 4) else None) = ap (λ (b : Bool). cond b (Some (field g 24 4)) None) magic ∙ data-kept g file base s (is_pe32 file) refl in
      let same_magic : magic_of g ≡ magic_of file = ap (λ (b : Bool). cond b Pe32 Pe32Plus) magic in
      cc (
        p-kept g file base s,
        same_magic,
        start,
        base-kept g file base s,
        sum-kept g file base s,
        directories-kept,
        sections-kept,
        c 0 2 refl,
        c 2 2 refl,
        c 4 4 refl,
        c 8 4 refl,
        c 12 4 refl,
        c 16 2 refl,
        c 18 2 refl,
        f 2 1 refl,
        f 3 1 refl,
        f 4 4 refl,
        f 8 4 refl,
        f 12 4 refl,
        f 16 4 refl,
        f 20 4 refl,
        f 32 4 refl,
        f 36 4 refl,
        f 40 2 refl,
        f 42 2 refl,
        f 44 2 refl,
        f 46 2 refl,
        f 48 2 refl,
        f 50 2 refl,
        f 52 4 refl,
        f 56 4 refl,
        f 60 4 refl,
        f 68 2 refl,
        f 70 2 refl,
        e 72 4 72 8 refl refl,
        e 76 4 80 8 refl refl,
        e 80 4 88 8 refl refl,
        e 84 4 96 8 refl refl,
        e 88 4 104 4 refl refl,
        e 92 4 108 4 refl refl,
      )

  pub head_tests-kept : (image : ℕ) → head_tests image g ≡ head_tests image file
  unfolding head_tests
  head_tests-kept image =
      let late = s.late in
      let fixed = fixed_held g file base s in
      let more = fixed_of (magic_of file) in
      let mz : num (byte_of g) 0 2 ≡ num (byte_of file) 0 2 = s.num_kept 0 2 (omega arith) (inl (omega arith)) (inl (omega arith)) in
      let signature : num (byte_of g) (pe_offset g) 4 ≡ num (byte_of file) (pe_offset file) 4 = ap (λ (p : ℕ). num (byte_of g) p 4) (p-kept g file base s) ∙ s.num_kept (pe_offset file) 4 (omega arith) (inl (omega arith)) (inl (omega arith)) in
      let size : fixed_size g ≡ fixed_size file = fixed-kept g file base s in
      let count : directory_count g ≡ directory_count file = count-kept g file base s in
      cc (s.len, p-kept g file base s, mz, signature, size, count, c 2 2 refl, c 16 2 refl, f 0 2 refl, f 56 4 refl, f 60 4 refl, start-kept g file base s (coff_field file 2 2))

sections_same : (image : ℕ) (h : Headers) (base n before i : ℕ) (ss : List SectionHeader) → sections_tests image (rebased_head h base) n before i ss ≡ sections_tests image h n before i ss
unfolding sections_tests
sections_same image h base n before i [] = refl
sections_same image h base n before i (s ∷ ss) = ap (λ (ts : List Test). section_tests image h n before i s ++ ts) (sections_same image h base n (end_of s) (i + 1) ss)

-- the same of faults 1 to 15 hold
pub layout_tests-kept : (g file : List ℕ) (base image : ℕ) → KeepsHead g file base → layout_tests image g ≡ layout_tests image file
layout_tests-kept g file base image s =
    ap (λ (ts : List Test). ts ++ placing_tests image (head_of g) (length g)) (head_tests-kept g file base s image)
    ∙ ap (λ (h : Headers). head_tests image file ++ placing_tests image h (length g)) (head-kept g file base s)
    ∙ ap (λ (n : ℕ). head_tests image file ++ placing_tests image (rebased_head (head_of file) base) n) s.len
    ∙ ap (λ (ts : List Test). head_tests image file ++ ts) (sections_same image (head_of file) base (length file) 0 0 (head_of file).sections.items)
