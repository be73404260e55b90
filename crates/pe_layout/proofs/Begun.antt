-- How many sections begin at or before an RVA, by the rows of a section table.
use Rattle.std.proofs.Common.{◌≡◌, ◌∙◌, ℕ, ◌<◌, ◌≤◌, Bool, true, false, List, [], map, length, get_or, sym, zero-add, ap, arith}
use Rattle.std.specs.Prelude.{nat_le}
use Rattle.std.specs.List.{range_with_len}
use Rattle.std.specs.List.Sorted.{IsPartitionedBy}
use Rattle.std.proofs.lemmas.Bool.{leb-true, leb-false, le-leb}
use Rattle.std.proofs.lemmas.List.FromFn.{length-map-range_with_len, get_or-map-range_with_len}
use Rattle.pe_head.specs.declared.section.SectionHeader.{SectionHeader}
use Rattle.pe_head.specs.Head.{head_of, coff_field, section_at}
use Rattle.pe_head.specs.Section.{section_header}
use Rattle.pe_layout.specs.Sections.{LieApart}
use Rattle.pe_layout.proofs.SectionPlaces.{starts_ascend, no_header}

abbrev pub begins_by : ℕ → SectionHeader → Bool
begins_by rva s = nat_le s.virtual_address rva

abbrev pub row_begins_by : ℕ → List ℕ → Bool
row_begins_by rva row = begins_by rva (section_header row 0)

pub parted : (ss : List SectionHeader) → LieApart ss → (rva : ℕ) → IsPartitionedBy (begins_by rva) ss
parted ss apart rva i j d le below test = (let a = starts_ascend ss apart i j d le below in let b = leb-true _ _ test in le-leb _ _ (omega arith))

-- how many sections a file has
pub count_of : (file : List ℕ) → length (head_of file).sections.items ≡ coff_field file 2 2
count_of file = length-map-range_with_len (section_at file) 0 (coff_field file 2 2)

-- the sections of a file, which its rows have one by one
abbrev pub sections_of : List ℕ → ℕ → List SectionHeader
sections_of file n = map (section_at file) (range_with_len 0 n)

module _ (file : List ℕ) (rows : List (List ℕ)) (n : ℕ) (count : length rows ≡ n) (sections : (k : ℕ) (d : List ℕ) → k < length rows → section_header (get_or rows k d) 0 ≡ section_at file k) where
  pub row_is : (k : ℕ) (d : List ℕ) (s : SectionHeader) → k < n → section_header (get_or rows k d) 0 ≡ get_or (sections_of file n) k s
  row_is k d s lt = sections k d (omega (arith, lt, count)) ∙ sym (get_or-map-range_with_len (section_at file) 0 n k k s (omega (arith, lt)) (zero-add k))

  pub parted_rows : LieApart (sections_of file n) → (rva : ℕ) → IsPartitionedBy (row_begins_by rva) rows
  parted_rows apart rva i j d le below test =
      let later : begins_by rva (get_or (sections_of file n) j no_header) ≡ true = ap (begins_by rva) (sym (row_is j d no_header (omega (arith, below, count)))) ∙ test in
      let earlier : begins_by rva (get_or (sections_of file n) i no_header) ≡ true =
      parted (sections_of file n) apart rva i j no_header le (omega (arith, below, count, length-map-range_with_len (section_at file) 0 n)) later in
      ap (begins_by rva) (row_is i d no_header (omega (arith, le, below, count))) ∙ earlier

  pub row_begun : (rva k : ℕ) (s : SectionHeader) → k < n → row_begins_by rva (get_or rows k []) ≡ true → (get_or (sections_of file n) k s).virtual_address ≤ rva
  row_begun rva k s lt begun = leb-true _ _ (ap (begins_by rva) (sym (row_is k [] s lt)) ∙ begun)

  pub row_later : (rva k : ℕ) (s : SectionHeader) → k < n → row_begins_by rva (get_or rows k []) ≡ false → rva < (get_or (sections_of file n) k s).virtual_address
  row_later rva k s lt later = leb-false _ _ (ap (begins_by rva) (sym (row_is k [] s lt)) ∙ later)
