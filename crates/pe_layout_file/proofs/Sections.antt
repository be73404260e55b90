-- What stands between the pieces of an image, and in them.
use Rattle.std.proofs.Common.{◌≡◌, ℕ, ◌+◌, ◌-◌, ◌<◌, ◌≤◌, ◌⊎◌, Bool, true, false, cond, inl, inr, List, [], ◌++◌, length, get_or, take, Some, None, refl, sym, ap, subst, append_assoc, ◌∙◌, arith}
use Rattle.std.specs.Prelude.{nat_lt, min, replicate, slice_get}
use Rattle.std.specs.List.{position_or_len}
use Rattle.std.proofs.lemmas.Bool.{le-ltb, leb-true, and_parts, cases_lt}
use Rattle.std.proofs.lemmas.Option.{get_or_from_slice_get, slice_get-get_or, slice_get_cases, slice_get_within}
use Rattle.std.proofs.lemmas.List.Folds.{find_at}
use Rattle.std.proofs.lemmas.List.Sums.{passes_at_first}
use Rattle.pe_view.specs.Number.{part}
use Rattle.pe_head.specs.declared.section.SectionHeader.{SectionHeader}
use Rattle.pe_head.specs.declared.headers.Headers.{Headers}
use Rattle.pe_head.specs.Section.{extent, rawlen}
use Rattle.pe_layout.specs.Piece.{end_of, holds, section_of}
use Rattle.pe_layout.specs.Plain.{plain, plain_bytes, IsIn}
use Rattle.pe_layout_file.specs.Pieces.{IsHeld, LieInOrder}
use Rattle.pe_layout_file.proofs.Bytes.{all_zeros, bytes_then, part_of_file}
use Rattle.pe_layout_file.proofs.Writing.{in_first, in_second}

-- a header, as the default of a list of them
abbrev pub no_header : SectionHeader
no_header = record {
  name = [];
  virtual_size = 0;
  virtual_address = 0;
  size_of_raw_data = 0;
  pointer_to_raw_data = 0;
  pointer_to_relocations = 0;
  pointer_to_linenumbers = 0;
  number_of_relocations = 0;
  number_of_linenumbers = 0;
  characteristics = 0;
}

smaller : (b : Bool) (m x : ℕ) → cond b 0 (min m x) ≤ m
smaller true m x = omega arith
smaller false m x = omega arith

-- the raw data of a section are inside it
pub raw_inside : (s : SectionHeader) → s.virtual_address + rawlen s ≤ end_of s
raw_inside s = let le : rawlen s ≤ extent s = smaller _ (extent s) s.size_of_raw_data in omega arith

-- the section at an index of a list that the table equals
pub section_at : (xs table : List SectionHeader) (i : ℕ) (d : SectionHeader) → xs ≡ table → i < length xs → slice_get table i ≡ Some (get_or xs i d)
section_at xs table i d same lt = subst (λ (ss : List SectionHeader). slice_get ss i ≡ Some (get_or xs i d)) same (slice_get-get_or xs i d lt)

module _ (h : Headers) (file : List ℕ) where
  -- an RVA is before a section or after its raw data
  abbrev pub Passes : ℕ → SectionHeader → Type 0
  Passes r s = (r < s.virtual_address) ⊎ (s.virtual_address + rawlen s ≤ r)

  in_section : (r : ℕ) (s : SectionHeader) → nat_lt r h.size_of_headers ≡ false → section_of h r ≡ Some s → s.virtual_address ≤ r → Passes r s → plain h file r ≡ 0
  in_section r s behind found low (inl lt) = absurd (omega arith)
  in_section r s behind found low (inr le) = let test : nat_lt (r - s.virtual_address) (rawlen s) ≡ false = le-ltb _ _ (omega arith) in rw (behind, found, test) refl

  -- a byte that is neither in the headers nor in raw data
  pub filled : (r : ℕ) → h.size_of_headers ≤ r → ((k : ℕ) (d : SectionHeader) → k < length h.sections.items → Passes r (get_or h.sections.items k d)) → plain h file r ≡ 0
  filled r le passes =
      let ss = h.sections.items in
      let i : ℕ = position_or_len (holds r) ss in
      let behind : nat_lt r h.size_of_headers ≡ false = le-ltb _ _ le in
      elim (slice_get_cases ss i).1 [
        | inl inside ↦ (
            let s : SectionHeader = inside.0 in
            let held : holds r s ≡ true = ap (holds r) (sym inside.3) ∙ passes_at_first (holds r) ss s inside.1 in
            let pass = rw inside.3 at (passes i s inside.1) in
            in_section r s behind (find_at (holds r) ss ∙ inside.2) (leb-true _ _ (and_parts _ _ held).0) pass)
        | inr past ↦ (let none : section_of h r ≡ None = find_at (holds r) ss ∙ past.1 in rw (behind, none) refl)
      ]

  -- the pieces before section i end before an RVA, at which the others have not begun
  pub record IsBetween (i r : ℕ) : Type 0 where
    pub behind : h.size_of_headers ≤ r
    pub inside : r ≤ h.size_of_image
    pub before : (k : ℕ) (d : SectionHeader) → k < i → k < length h.sections.items → let s = get_or h.sections.items k d in s.virtual_address + rawlen s ≤ r
    pub after : (k : ℕ) (d : SectionHeader) → i ≤ k → k < length h.sections.items → r ≤ (get_or h.sections.items k d).virtual_address

  module _ (lie : LieInOrder h file) where
    pub headers_are : plain_bytes h file 0 h.size_of_headers ≡ part file 0 h.size_of_headers
    headers_are =
        let held = lie.headers_held in
        part_of_file (plain h file) file 0 0 h.size_of_headers (λ _. omega arith) (λ k lt. lie.laid_out.headers (0 + k) (omega arith))

    pub at_first : IsBetween 0 h.size_of_headers
    at_first = record {
      behind = omega arith;
      inside = lie.headers_inside;
      before = λ k d lt within. absurd (omega arith);
      after = λ k d le within. lie.behind k d within;
    }

    module _ (i r : ℕ) (s : SectionHeader) (at : slice_get h.sections.items i ≡ Some s) (between : IsBetween i r) where
      within : i < length h.sections.items
      within = slice_get_within h.sections.items i s at

      is : (d : SectionHeader) → get_or h.sections.items i d ≡ s
      is d = get_or_from_slice_get h.sections.items i s d at

      pub section_after : r ≤ s.virtual_address
      section_after = subst (λ (x : SectionHeader). r ≤ x.virtual_address) (is s) (between.after i s (omega arith) within)

      pub ends_inside : end_of s ≤ h.size_of_image
      ends_inside = subst (λ (x : SectionHeader). end_of x ≤ h.size_of_image) (is s) (lie.inside i s within)

      -- a later section begins after it
      follows : (k : ℕ) (d : SectionHeader) → i < k → k < length h.sections.items → end_of s ≤ (get_or h.sections.items k d).virtual_address
      follows k d lt there = subst (λ (x : SectionHeader). end_of x ≤ (get_or h.sections.items k d).virtual_address) (is d) (lie.apart i k d lt there)

      starts : (k : ℕ) (d : SectionHeader) → i ≤ k → k < length h.sections.items → s.virtual_address ≤ (get_or h.sections.items k d).virtual_address
      starts k d le there = elim (cases_lt i k) [
        | inl lt ↦ (let later = follows k d lt there in omega arith)
        | inr ge ↦ (let e : k ≡ i = omega arith in let same = is d in rw (e, same) (omega arith))
      ]

      -- the bytes up to the section
      zeros_before : plain_bytes h file r (s.virtual_address - r) ≡ replicate (s.virtual_address - r) 0
      zeros_before =
          let behind = between.behind in
          all_zeros (plain h file) r (s.virtual_address - r)
          (λ j below. filled (r + j) (omega arith)
          (λ k d there. elim (cases_lt k i) [
            | inl past ↦ (let ends = between.before k d past there in inr (omega arith))
            | inr ahead ↦ (let begins = starts k d ahead there in inl (omega arith))
          ]))

      raw_data : plain_bytes h file s.virtual_address (rawlen s) ≡ part file s.pointer_to_raw_data (rawlen s)
      raw_data =
          let held : 0 < rawlen s → s.pointer_to_raw_data + rawlen s ≤ length file = subst (IsHeld (length file)) (is s) (lie.held i s within) in
          let fits = raw_inside s in
          part_of_file (plain h file) file s.virtual_address s.pointer_to_raw_data (rawlen s) held
          (λ j below.
          let here : IsIn (s.virtual_address + j) s = record { low = omega arith; high = omega arith } in
          let offset : s.virtual_address + j - s.virtual_address ≡ j = omega arith in
          rw offset at (lie.laid_out.raw (s.virtual_address + j) i s at here (omega arith)))

      -- the bytes up to the section, and its raw data
      pub section_bytes : plain_bytes h file r (s.virtual_address - r + rawlen s) ≡ replicate (s.virtual_address - r) 0 ++ part file s.pointer_to_raw_data (rawlen s)
      section_bytes =
          let low = section_after in
          let start : r + (s.virtual_address - r) ≡ s.virtual_address = omega arith in
          bytes_then (plain h file) r (s.virtual_address - r) (rawlen s)
          ∙ ap (λ (xs : List ℕ). xs ++ plain_bytes h file (r + (s.virtual_address - r)) (rawlen s)) zeros_before
          ∙ ap (λ (a : ℕ). replicate (s.virtual_address - r) 0 ++ plain_bytes h file a (rawlen s)) start
          ∙ ap (λ (xs : List ℕ). replicate (s.virtual_address - r) 0 ++ xs) raw_data

      pub at_next : IsBetween (i + 1) (s.virtual_address + rawlen s)
      at_next =
          let low = section_after in
          let fits = raw_inside s in
          let end = ends_inside in
          let behind = between.behind in
          record {
            behind = omega arith;
            inside = omega arith;
            before = λ k d lt there. elim (cases_lt k i) [
              | inl past ↦ (let ends = between.before k d past there in omega arith)
              | inr ahead ↦ (let e : k ≡ i = omega arith in let same = is d in rw (e, same) (omega arith))
            ];
            after = λ k d le there. let later = follows k d (omega arith) there in omega arith;
          }

  -- the bytes after all sections
  pub last_bytes : (r : ℕ) → IsBetween (length h.sections.items) r → plain_bytes h file r (h.size_of_image - r) ≡ replicate (h.size_of_image - r) 0
  last_bytes r between =
      let behind = between.behind in
      all_zeros (plain h file) r (h.size_of_image - r)
      (λ j below. filled (r + j) (omega arith) (λ k d there. let ends = between.before k d there there in inr (omega arith)))

  -- bytes, and those after them
  pub more_bytes : (r n : ℕ) → plain_bytes h file 0 (r + n) ≡ plain_bytes h file 0 r ++ plain_bytes h file r n
  more_bytes r n = bytes_then (plain h file) 0 r n ∙ ap (λ (a : ℕ). plain_bytes h file 0 r ++ plain_bytes h file a n) (omega arith)

  -- more bytes of the image were written
  pub grows : (before mid now : List ℕ) (r n m : ℕ) → r + n ≡ m → mid ≡ before ++ plain_bytes h file 0 r → now ≡ mid ++ plain_bytes h file r n → now ≡ before ++ plain_bytes h file 0 m
  grows before mid now r n m size first is =
      is ∙ ap (λ (xs : List ℕ). xs ++ plain_bytes h file r n) first ∙ append_assoc before (plain_bytes h file 0 r) (plain_bytes h file r n)
      ∙ ap (λ (xs : List ℕ). before ++ xs) (sym (more_bytes r n) ∙ ap (plain_bytes h file 0) size)

  -- a beginning of the bytes of the image
  pub begins : (before mid now : List ℕ) (r n k : ℕ) → r + n ≤ h.size_of_image → mid ≡ before ++ plain_bytes h file 0 r → now ≡ mid ++ take k (plain_bytes h file r n)
      → (j : ℕ) × (now ≡ before ++ take j (plain_bytes h file 0 h.size_of_image))
  begins before mid now r n k le first is =
      let size : r + n + (h.size_of_image - (r + n)) ≡ h.size_of_image = omega arith in
      let rest : List ℕ = plain_bytes h file (r + n) (h.size_of_image - (r + n)) in
      let so_far = in_second before mid now (plain_bytes h file 0 r) (plain_bytes h file r n) k first is in
      let all = in_first before now (plain_bytes h file 0 r ++ plain_bytes h file r n) rest so_far.0 so_far.1 in (
        all.0,
        all.1 ∙ ap (λ (xs : List ℕ). before ++ take all.0 xs)
            (ap (λ (xs : List ℕ). xs ++ rest) (sym (more_bytes r n)) ∙ sym (more_bytes (r + n) (h.size_of_image - (r + n))) ∙ ap (plain_bytes h file 0) size),
      )
