-- The blocks of a table, block by block.
use Rattle.std.proofs.Common.{◌≡◌, ℕ, zero, suc, ◌+◌, ◌-◌, ◌<◌, ◌≤◌, true, false, List, [], ◌∷◌, ◌++◌, Option, Some, None, refl, sym, ap, subst, ◌∙◌, append_assoc, arith, inl, inr}
use Rattle.std.specs.Prelude.{nat_lt, nat_le, not, ◌==◌, option_to_list, IsTrue}
use Rattle.std.specs.List.{flat_map}
use Rattle.std.proofs.lemmas.Bool.{lt-ltb, le-leb, ltb-false, or_parts, cases_Bool}
use Rattle.std.proofs.lemmas.Bool.Decides.{nat_tests}
use Rattle.pe_view.specs.declared.fault.Fault.{Fault}
use Rattle.pe_view.specs.Faults.{Test, first_standing}
use Rattle.pe_view.specs.FirstStanding.{first-past, first-in}
use Rattle.pe_head.specs.declared.directory.Directory.{Directory}
use Rattle.pe_layout.specs.Image.{LaidOut, is_inside, fault_at}
use Rattle.pe_ranges.specs.Ranges.{SameRanges, meets}
use Rattle.pe_tables.specs.Fixups.{Block, Entry, block_at, blocks_from, blocks_of, ends_table, entries_of, fixup_of, fixups_in, width_of}
use Rattle.pe_tables.specs.FixupFaults.{field_tests, entries_tests, blocks_tests, is_bad_size, size_test, fixup_tests_at}
use Rattle.pe_tables.specs.TableFaults.{goes_past}
use Rattle.pe_tables.specs.declared.fixups.Fixup.{Fixup}

-- there is no block where the table ends
pub blocks-end : (i : LaidOut) (end rva n : ℕ) → ends_table i end rva ≡ true → blocks_from n i end rva ≡ []
blocks-end i end rva zero ends = refl
blocks-end i end rva (suc n) ends = rw ends refl

-- there is a block where it continues
blocks-more : (i : LaidOut) (end rva n : ℕ) → ends_table i end rva ≡ false → blocks_from (suc n) i end rva ≡ block_at i rva ∷ blocks_from n i end (rva + (block_at i rva).size)
blocks-more i end rva n goes = rw goes refl

not_zero : (n : ℕ) → (n == 0) ≡ false → 0 < n
not_zero n e = grind (arith, nat_tests)

some_size : (i : LaidOut) (end rva : ℕ) → ends_table i end rva ≡ false → 0 < (block_at i rva).size
some_size i end rva goes =
    let p = or_parts _ _ goes in
    not_zero (block_at i rva).size p.1

past_end : (i : LaidOut) (end rva : ℕ) → end ≤ rva → ends_table i end rva ≡ true
past_end i end rva le = let e : nat_lt end (rva + 8) ≡ true = lt-ltb _ _ (omega arith) in rw e refl

-- more blocks than a table has room for are all of them
enough : (i : LaidOut) (end n m rva : ℕ) → end ≤ rva + n → end ≤ rva + m → blocks_from n i end rva ≡ blocks_from m i end rva
enough i end zero m rva le le' = sym (blocks-end i end rva m (past_end i end rva (omega arith)))
enough i end (suc n) zero rva le le' = blocks-end i end rva (suc n) (past_end i end rva (omega arith))
enough i end (suc n) (suc m) rva le le' = elim (cases_Bool (ends_table i end rva)) [
  | inl ends ↦ blocks-end i end rva (suc n) ends ∙ sym (blocks-end i end rva (suc m) ends)
  | inr goes ↦
      (let some = some_size i end rva goes in
      blocks-more i end rva n goes
      ∙ ap (λ (bs : List Block). block_at i rva ∷ bs) (enough i end n m (rva + (block_at i rva).size) (omega arith) (omega arith))
      ∙ sym (blocks-more i end rva m goes))
]

-- the blocks from an RVA on, if there is one
pub blocks-step : (i : LaidOut) (end rva : ℕ) → ends_table i end rva ≡ false
    → blocks_from (end - rva) i end rva ≡ block_at i rva ∷ blocks_from (end - (rva + (block_at i rva).size)) i end (rva + (block_at i rva).size)
blocks-step i end rva goes =
    let room : rva + 8 ≤ end = ltb-false end (rva + 8) (or_parts _ _ goes).0 in
    let some = some_size i end rva goes in
    let n : ℕ = end - rva - 1 in
    let e : end - rva ≡ suc n = omega arith in
    ap (λ (m : ℕ). blocks_from m i end rva) e ∙ blocks-more i end rva n goes
    ∙ ap (λ (bs : List Block). block_at i rva ∷ bs) (enough i end n (end - (rva + (block_at i rva).size)) (rva + (block_at i rva).size) (omega arith) (omega arith))

first-later : (t : Test) (ts : List Test) → t.stands ≡ false → first_standing (t ∷ ts) ≡ first_standing ts
first-later t ts passes = rw passes refl

first-here : (t : Test) (ts : List Test) → t.stands ≡ true → first_standing (t ∷ ts) ≡ Some t.fault
first-here t ts stands = rw stands refl

module _ (i : LaidOut) (slots : List (ℕ × ℕ)) (end rva : ℕ) (before : List Fixup) (goes : ends_table i end rva ≡ false) where
  -- a block without a fault
  pub blocks-past : (size_test i end (block_at i rva)).stands ≡ false → first_standing (entries_tests i slots before (entries_of i (block_at i rva))) ≡ None
      → first_standing (blocks_tests i slots end before (blocks_from (end - rva) i end rva))
      ≡ first_standing (blocks_tests i slots end (before ++ fixups_in i (block_at i rva)) (blocks_from (end - (rva + (block_at i rva).size)) i end (rva + (block_at i rva).size)))
  unfolding blocks_tests
  blocks-past sized none =
      let part : List Test = entries_tests i slots before (entries_of i (block_at i rva)) in
      let later : List Test = blocks_tests i slots end (before ++ fixups_in i (block_at i rva)) (blocks_from (end - (rva + (block_at i rva).size)) i end (rva + (block_at i rva).size)) in
      ap (λ bs. first_standing (blocks_tests i slots end before bs)) (blocks-step i end rva goes)
      ∙ first-later (size_test i end (block_at i rva)) (part ++ later) sized
      ∙ first-past part later none

  -- a block of a bad size
  pub blocks-bad_size : (size_test i end (block_at i rva)).stands ≡ true → first_standing (blocks_tests i slots end before (blocks_from (end - rva) i end rva)) ≡ Some (fault_at 33 i rva)
  unfolding blocks_tests
  blocks-bad_size stands =
      let part : List Test = entries_tests i slots before (entries_of i (block_at i rva)) in
      let later : List Test = blocks_tests i slots end (before ++ fixups_in i (block_at i rva)) (blocks_from (end - (rva + (block_at i rva).size)) i end (rva + (block_at i rva).size)) in
      ap (λ bs. first_standing (blocks_tests i slots end before bs)) (blocks-step i end rva goes) ∙ first-here (size_test i end (block_at i rva)) (part ++ later) stands

  -- a block with a fault in its entries
  pub blocks-in : (y : Fault) → (size_test i end (block_at i rva)).stands ≡ false → first_standing (entries_tests i slots before (entries_of i (block_at i rva))) ≡ Some y
      → first_standing (blocks_tests i slots end before (blocks_from (end - rva) i end rva)) ≡ Some y
  unfolding blocks_tests
  blocks-in y sized some =
      let part : List Test = entries_tests i slots before (entries_of i (block_at i rva)) in
      let later : List Test = blocks_tests i slots end (before ++ fixups_in i (block_at i rva)) (blocks_from (end - (rva + (block_at i rva).size)) i end (rva + (block_at i rva).size)) in
      ap (λ bs. first_standing (blocks_tests i slots end before bs)) (blocks-step i end rva goes)
      ∙ first-later (size_test i end (block_at i rva)) (part ++ later) sized
      ∙ first-in part later y some

  -- the fixups read and those left
  pub blocks-fixups : before ++ flat_map (fixups_in i) (blocks_from (end - rva) i end rva)
      ≡ (before ++ fixups_in i (block_at i rva)) ++ flat_map (fixups_in i) (blocks_from (end - (rva + (block_at i rva).size)) i end (rva + (block_at i rva).size))
  blocks-fixups =
      ap (λ bs. before ++ flat_map (fixups_in i) bs) (blocks-step i end rva goes)
      ∙ sym (append_assoc before (fixups_in i (block_at i rva)) (flat_map (fixups_in i) (blocks_from (end - (rva + (block_at i rva).size)) i end (rva + (block_at i rva).size))))

-- no blocks have no fault
pub blocks-none : (i : LaidOut) (slots : List (ℕ × ℕ)) (end : ℕ) (before : List Fixup) → first_standing (blocks_tests i slots end before []) ≡ None
unfolding blocks_tests
blocks-none i slots end before = refl

same_field : (i : LaidOut) (slots others : List (ℕ × ℕ)) → SameRanges slots others → (before : List Fixup) (f : Option Fixup) → field_tests i slots before f ≡ field_tests i others before f
same_field i slots others same before None = refl
same_field i slots others same before (Some f) = rw (same (λ range. meets f.field (width_of f.kind) range.0 range.1)) refl

same_entries : (i : LaidOut) (slots others : List (ℕ × ℕ)) → SameRanges slots others → (before : List Fixup) (es : List Entry) → entries_tests i slots before es ≡ entries_tests i others before es
unfolding entries_tests
same_entries i slots others same before [] = refl
same_entries i slots others same before (e ∷ es) = rw (same_field i slots others same before (fixup_of e), same_entries i slots others same (before ++ option_to_list (fixup_of e)) es) refl

-- lists of the same slots have the same tests
pub same_blocks : (i : LaidOut) (slots others : List (ℕ × ℕ)) → SameRanges slots others → (end : ℕ) (before : List Fixup) (bs : List Block) → blocks_tests i slots end before bs ≡ blocks_tests i others end before bs
unfolding blocks_tests
same_blocks i slots others same end before [] = refl
same_blocks i slots others same end before (b ∷ bs) = rw (same_entries i slots others same before (entries_of i b), same_blocks i slots others same end (before ++ fixups_in i b) bs) refl

inside_test : (rva size limit : ℕ) → rva + size ≤ limit → not (nat_le (rva + size) limit) ≡ false
inside_test rva size limit le = let e : nat_le (rva + size) limit ≡ true = le-leb _ _ le in rw e refl

-- a table that lies in the image has the faults of its blocks
pub table-past : (i : LaidOut) (slots others : List (ℕ × ℕ)) (d : Directory) → SameRanges slots others → d.rva + d.size ≤ i.size
    → first_standing (fixup_tests_at i others (Some d)) ≡ first_standing (blocks_tests i slots (d.rva + d.size) [] (blocks_of i d))
table-past i slots others d same le =
    first-later (record { stands = not (is_inside i d.rva d.size); fault = fault_at 34 i d.rva }) (blocks_tests i others (d.rva + d.size) [] (blocks_of i d)) (inside_test d.rva d.size i.size le)
    ∙ ap first_standing (sym (same_blocks i slots others same (d.rva + d.size) [] (blocks_of i d)))

pub not_equal_zero : (n : ℕ) → 0 < n → (n == 0) ≡ false
not_equal_zero n some = grind (arith, nat_tests)

module _ (i : LaidOut) (others : List (ℕ × ℕ)) (d : Directory) (inside : d.rva + d.size ≤ i.size) where
  all_blocks : blocks_of i d ≡ blocks_from (d.rva + d.size - d.rva) i (d.rva + d.size) d.rva
  all_blocks = let fuel : d.size ≡ d.rva + d.size - d.rva = omega arith in ap (λ (n : ℕ). blocks_from n i (d.rva + d.size) d.rva) fuel

  -- a table without a block
  pub table-none : ends_table i (d.rva + d.size) d.rva ≡ true → (first_standing (fixup_tests_at i others (Some d)) ≡ None) × (blocks_of i d ≡ [])
  table-none ends =
      let none = blocks-end i (d.rva + d.size) d.rva d.size ends in (
        table-past i others others d (λ test. refl) inside ∙ ap (λ (bs : List Block). first_standing (blocks_tests i others (d.rva + d.size) [] bs)) none ∙ blocks-none i others (d.rva + d.size) [],
        none,
      )

  -- one whose first block has a bad size
  pub table-bad : ends_table i (d.rva + d.size) d.rva ≡ false → is_bad_size (d.rva + d.size) d.rva (block_at i d.rva).size ≡ true → first_standing (fixup_tests_at i others (Some d)) ≡ Some (fault_at 33 i d.rva)
  table-bad goes bad =
      table-past i others others d (λ test. refl) inside ∙ ap (λ (bs : List Block). first_standing (blocks_tests i others (d.rva + d.size) [] bs)) all_blocks
      ∙ blocks-bad_size i others (d.rva + d.size) d.rva [] goes bad

  -- the size of the first block of a table was tested
  pub table-asked : ends_table i (d.rva + d.size) d.rva ≡ false → is_bad_size (d.rva + d.size) d.rva (block_at i d.rva).size ≡ false → IsTrue (goes_past 33 (fixup_tests_at i others (Some d)))
  unfolding blocks_tests
  table-asked goes sized =
      subst (λ (bs : List Block). IsTrue (goes_past 33 (record { stands = not (is_inside i d.rva d.size); fault = fault_at 34 i d.rva } ∷ blocks_tests i others (d.rva + d.size) [] bs)))
      (sym (all_blocks ∙ blocks-step i (d.rva + d.size) d.rva goes))
      (rw (inside_test d.rva d.size i.size inside, sized) refl)
