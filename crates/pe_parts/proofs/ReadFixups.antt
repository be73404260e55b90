-- An image of which some bytes are not at hand: what base relocations read of it.
use Rattle.std.proofs.Common.{◌≡◌, ℕ, zero, suc, ◌+◌, ◌-◌, ◌*◌, ◌/◌, ◌%◌, ◌<◌, ◌≤◌, Bool, true, false, cond, List, [], ◌∷◌, ◌++◌, Option, None, Some, refl, sym, ◌∙◌, ap, ap₂, arith, inl, inr}
use Rattle.std.specs.Prelude.{◌==◌, ◌||◌, not, nat_lt, map, option_to_list, if◌then◌else◌}
use Rattle.std.specs.List.{filter_map, flat_map}
use Rattle.std.proofs.lemmas.Bool.{cases_Bool, or_parts, ltb-false}
use Rattle.pe_view.specs.Number.{num}
use Rattle.pe_view.specs.Faults.{first_standing}
use Rattle.pe_view.specs.FirstStanding.{first-append, none-append}
use Rattle.std.specs.Option.{option_or}
use Rattle.pe_view.specs.declared.fault.Fault.{Fault}
use Rattle.pe_head.specs.declared.directory.Directory.{Directory}
use Rattle.pe_layout.specs.Image.{LaidOut, number_at, is_inside, fault_at}
use Rattle.pe_tables.specs.Fixups.{Block, Entry, block_at, is_known, ends_table, blocks_from, blocks_of, entry_at, entries_of, fixups_in, fixup_of, fixups_of, fixups_at, slot_range}
use Rattle.pe_tables.specs.declared.fixups.Fixup.{Fixup}
use Rattle.pe_tables.specs.FixupFaults.{field_tests, entry_tests, entries_tests, is_bad_size, size_test, blocks_tests, fixup_tests_at, fixup_tests}
use Rattle.pe_parts.specs.Filled.{filled, AreAt, HasTable}
use Rattle.pe_parts.proofs.Numbers.{map_agrees}

pub number_agrees : (b c : ℕ → ℕ) (start end : ℕ) → ((r : ℕ) → start ≤ r → r < end → b r ≡ c r) → (place width : ℕ) → start ≤ place → place + width ≤ end → num b place width ≡ num c place width
number_agrees b c start end same place zero low high = refl
number_agrees b c start end same place (suc width) low high =
    ap₂ (λ x y. x + 256 * y) (same place low (omega arith)) (number_agrees b c start end same (place + 1) width (omega arith) (omega arith))

pub number_at_agrees : (i : LaidOut) (b : ℕ → ℕ) (t : ℕ → Option (List ℕ)) (w : ℕ → ℕ) (start end : ℕ) → AreAt i b start end → (width place : ℕ) → start ≤ place → place + width ≤ end → number_at width (filled i b t w) place ≡ number_at width i place
number_at_agrees i b t w start end a width place low high = number_agrees b i.byte start end a.bytes place width low high

-- whether a table ends
ends_agree : (i : LaidOut) (b : ℕ → ℕ) (t : ℕ → Option (List ℕ)) (w : ℕ → ℕ) (start end rva : ℕ) → AreAt i b start end → start ≤ rva → ends_table (filled i b t w) end rva ≡ ends_table i end rva
ends_agree i b t w start end rva a low = elim (cases_Bool (nat_lt end (rva + 8))) [
  | inl e ↦ rw e refl
  | inr e ↦ ap (λ n. nat_lt end (rva + 8) || (n == 0)) (number_at_agrees i b t w start end a 4 (rva + 4) (omega arith) (omega (arith, ltb-false _ _ e)))
]

block_agrees : (i : LaidOut) (b : ℕ → ℕ) (t : ℕ → Option (List ℕ)) (w : ℕ → ℕ) (start end rva : ℕ) → AreAt i b start end → start ≤ rva → rva + 8 ≤ end → block_at (filled i b t w) rva ≡ block_at i rva
block_agrees i b t w start end rva a low high =
    ap₂ (λ p s. let x : Block = record { rva = rva; page = p; size = s } in x)
    (number_at_agrees i b t w start end a 4 rva low (omega arith))
    (number_at_agrees i b t w start end a 4 (rva + 4) (omega arith) (omega arith))

-- a table goes on where it doesn't end
goes_on : (end rva n : ℕ) → (nat_lt end (rva + 8) || (n == 0)) ≡ false → rva + 8 ≤ end
goes_on end rva n e = elim (cases_Bool (nat_lt end (rva + 8))) [
  | inl y ↦ absurd (cc (y, e))
  | inr y ↦ ltb-false _ _ y
]

-- the blocks of a table whose bytes are at hand
blocks_agree : (n : ℕ) (i : LaidOut) (b : ℕ → ℕ) (t : ℕ → Option (List ℕ)) (w : ℕ → ℕ) (start end rva : ℕ) → AreAt i b start end → start ≤ rva → blocks_from n (filled i b t w) end rva ≡ blocks_from n i end rva
blocks_agree zero i b t w start end rva a low = refl
blocks_agree (suc n) i b t w start end rva a low = elim (cases_Bool (ends_table i end rva)) [
  | inl e ↦ rw (ends_agree i b t w start end rva a low, e) refl
  | inr e ↦
      let high : rva + 8 ≤ end = goes_on end rva (number_at 4 i (rva + 4)) e in
      rw (ends_agree i b t w start end rva a low, e)
      (ap₂ (λ x xs. x ∷ xs) (block_agrees i b t w start end rva a low high)
      (ap (λ s. blocks_from n (filled i b t w) end (rva + s)) (number_at_agrees i b t w start end a 4 (rva + 4) (omega arith) (omega arith))
      ∙ blocks_agree n i b t w start end (rva + number_at 4 i (rva + 4)) a (omega arith)))
]

-- the entries of a block that ends by the table's end
entries_agree : (i : LaidOut) (b : ℕ → ℕ) (t : ℕ → Option (List ℕ)) (w : ℕ → ℕ) (start end : ℕ) (block : Block) → AreAt i b start end → start ≤ block.rva → block.rva + block.size ≤ end → entries_of (filled i b t w) block ≡ entries_of i block
entries_agree i b t w start end block a low high =
    map_agrees (entry_at (filled i b t w) block) (entry_at i block) 0 ((block.size - 8) / 2) (λ k le lt.
    let inside : 2 * k + 2 ≤ block.size - 8 = omega arith in
    ap (λ n. let x : Entry = record { rva = block.rva + 8 + 2 * k; kind = n / 4096; field = block.page + n % 4096 } in x)
    (number_at_agrees i b t w start end a 2 (block.rva + 8 + 2 * k) (omega arith) (omega arith)))

-- the tests of entries don't read
field_tests_agree : (i : LaidOut) (b : ℕ → ℕ) (t : ℕ → Option (List ℕ)) (w : ℕ → ℕ) (slots : List (ℕ × ℕ)) (before : List Fixup) (f : Option Fixup) → field_tests (filled i b t w) slots before f ≡ field_tests i slots before f
field_tests_agree i b t w slots before None = refl
field_tests_agree i b t w slots before (Some f) = refl

entry_tests_agree : (i : LaidOut) (b : ℕ → ℕ) (t : ℕ → Option (List ℕ)) (w : ℕ → ℕ) (slots : List (ℕ × ℕ)) (before : List Fixup) (e : Entry) → entry_tests (filled i b t w) slots before e ≡ entry_tests i slots before e
entry_tests_agree i b t w slots before e = ap (λ ts. record { stands = not (is_known e.kind); fault = fault_at 35 i e.rva } ∷ ts) (field_tests_agree i b t w slots before (fixup_of e))

entries_tests_agree : (i : LaidOut) (b : ℕ → ℕ) (t : ℕ → Option (List ℕ)) (w : ℕ → ℕ) (slots : List (ℕ × ℕ)) (before : List Fixup) (es : List Entry) → entries_tests (filled i b t w) slots before es ≡ entries_tests i slots before es
unfolding entries_tests
entries_tests_agree i b t w slots before [] = refl
entries_tests_agree i b t w slots before (e ∷ es) =
    ap₂ (λ x y. x ++ y) (entry_tests_agree i b t w slots before e) (entries_tests_agree i b t w slots (before ++ option_to_list (fixup_of e)) es)

-- a block whose size is no fault ends by the table's end
good_ends : (end rva size : ℕ) → is_bad_size end rva size ≡ false → rva + size ≤ end
good_ends end rva size good = ltb-false _ _ (or_parts _ _ (or_parts _ _ good).1).1

-- the tests of blocks, up to the first that stands
blocks_tests_agree : (n : ℕ) (i : LaidOut) (b : ℕ → ℕ) (t : ℕ → Option (List ℕ)) (w : ℕ → ℕ) (slots : List (ℕ × ℕ)) (start end rva : ℕ) (before : List Fixup) → AreAt i b start end → start ≤ rva
    → first_standing (blocks_tests (filled i b t w) slots end before (blocks_from n i end rva)) ≡ first_standing (blocks_tests i slots end before (blocks_from n i end rva))
unfolding blocks_tests
blocks_tests_agree zero i b t w slots start end rva before a low = refl
blocks_tests_agree (suc n) i b t w slots start end rva before a low = elim (cases_Bool (ends_table i end rva)) [
  | inl e ↦ rw e refl
  | inr e ↦ elim (cases_Bool (is_bad_size end rva (number_at 4 i (rva + 4)))) [
    | inl bad ↦ rw (e, bad) refl
    | inr good ↦
        let block = block_at i rva in
        let rest = blocks_from n i end (rva + number_at 4 i (rva + 4)) in
        let same = entries_agree i b t w start end block a low (good_ends end rva (number_at 4 i (rva + 4)) good) in
        let tests : first_standing (entries_tests (filled i b t w) slots before (entries_of (filled i b t w) block) ++ blocks_tests (filled i b t w) slots end (before ++ fixups_in (filled i b t w) block) rest)
        ≡ first_standing (entries_tests i slots before (entries_of i block) ++ blocks_tests i slots end (before ++ fixups_in i block) rest) =
        ap (λ (es : List Entry). first_standing (entries_tests (filled i b t w) slots before es ++ blocks_tests (filled i b t w) slots end (before ++ filter_map fixup_of es) rest)) same
        ∙ first-append (entries_tests (filled i b t w) slots before (entries_of i block)) (blocks_tests (filled i b t w) slots end (before ++ fixups_in i block) rest)
        ∙ ap₂ option_or (ap first_standing (entries_tests_agree i b t w slots before (entries_of i block)))
        (blocks_tests_agree n i b t w slots start end (rva + number_at 4 i (rva + 4)) (before ++ fixups_in i block) a (omega arith))
        ∙ sym (first-append (entries_tests i slots before (entries_of i block)) (blocks_tests i slots end (before ++ fixups_in i block) rest)) in
        rw (e, good) tests
  ]
]

-- what the first test and those behind it say where none stands
none_first : (b : Bool) (y : Fault) → cond b (Some y) None ≡ None → b ≡ false
none_first true y none = absurd cc
none_first false y none = refl

-- the fixups of blocks without a fault
blocks_fixups_agree : (n : ℕ) (i : LaidOut) (b : ℕ → ℕ) (t : ℕ → Option (List ℕ)) (w : ℕ → ℕ) (slots : List (ℕ × ℕ)) (start end rva : ℕ) (before : List Fixup) → AreAt i b start end → start ≤ rva
    → first_standing (blocks_tests i slots end before (blocks_from n i end rva)) ≡ None
    → flat_map (fixups_in (filled i b t w)) (blocks_from n i end rva) ≡ flat_map (fixups_in i) (blocks_from n i end rva)
unfolding blocks_tests
blocks_fixups_agree zero i b t w slots start end rva before a low none = refl
blocks_fixups_agree (suc n) i b t w slots start end rva before a low none = elim (cases_Bool (ends_table i end rva)) [
  | inl e ↦ rw e refl
  | inr e ↦
      let block = block_at i rva in
      let next = rva + number_at 4 i (rva + 4) in
      let rest = blocks_from n i end next in
      let all = rw e at none in
      let parts = none-append (size_test i end block ∷ []) (entries_tests i slots before (entries_of i block) ++ blocks_tests i slots end (before ++ fixups_in i block) rest) all in
      let good = none_first (is_bad_size end rva (number_at 4 i (rva + 4))) (fault_at 33 i rva) parts.0 in
      let more = none-append (entries_tests i slots before (entries_of i block)) (blocks_tests i slots end (before ++ fixups_in i block) rest) parts.1 in
      let same = entries_agree i b t w start end block a low (good_ends end rva (number_at 4 i (rva + 4)) good) in
      rw e (ap₂ (λ x y. x ++ y) (ap (λ (es : List Entry). filter_map fixup_of es) same)
      (blocks_fixups_agree n i b t w slots start end next (before ++ fixups_in i block) a (omega arith) more.1))
]

fixup_tests_at_agree : (i : LaidOut) (b : ℕ → ℕ) (t : ℕ → Option (List ℕ)) (w : ℕ → ℕ) (slots : List (ℕ × ℕ)) (d : Option Directory) → HasTable i b d → first_standing (fixup_tests_at (filled i b t w) slots d) ≡ first_standing (fixup_tests_at i slots d)
fixup_tests_at_agree i b t w slots None has = refl
fixup_tests_at_agree i b t w slots (Some d) has =
    ap (λ o. if not (is_inside i d.rva d.size) then Some (fault_at 34 i d.rva) else o)
    (ap (λ bs. first_standing (blocks_tests (filled i b t w) slots (d.rva + d.size) [] bs)) (blocks_agree d.size i b t w d.rva (d.rva + d.size) d.rva has (omega arith))
    ∙ blocks_tests_agree d.size i b t w slots d.rva (d.rva + d.size) d.rva [] has (omega arith))

pub fixup_tests_agree : (i : LaidOut) (b : ℕ → ℕ) (t : ℕ → Option (List ℕ)) (w : ℕ → ℕ) (slots : List ℕ) → HasTable i b (i.directory 5) → first_standing (fixup_tests (filled i b t w) slots) ≡ first_standing (fixup_tests i slots)
fixup_tests_agree i b t w slots has = fixup_tests_at_agree i b t w (map (slot_range i.slot_width) slots) (i.directory 5) has

fixups_at_agree : (i : LaidOut) (b : ℕ → ℕ) (t : ℕ → Option (List ℕ)) (w : ℕ → ℕ) (slots : List (ℕ × ℕ)) (d : Option Directory) → HasTable i b d → first_standing (fixup_tests_at i slots d) ≡ None → fixups_at (filled i b t w) d ≡ fixups_at i d
fixups_at_agree i b t w slots None has none = refl
fixups_at_agree i b t w slots (Some d) has none =
    let parts = none-append (record { stands = not (is_inside i d.rva d.size); fault = fault_at 34 i d.rva } ∷ []) (blocks_tests i slots (d.rva + d.size) [] (blocks_of i d)) none in
    ap (λ bs. flat_map (fixups_in (filled i b t w)) bs) (blocks_agree d.size i b t w d.rva (d.rva + d.size) d.rva has (omega arith))
    ∙ blocks_fixups_agree d.size i b t w slots d.rva (d.rva + d.size) d.rva [] has (omega arith) parts.1

pub fixups_agree : (i : LaidOut) (b : ℕ → ℕ) (t : ℕ → Option (List ℕ)) (w : ℕ → ℕ) (slots : List ℕ) → HasTable i b (i.directory 5) → first_standing (fixup_tests i slots) ≡ None → fixups_of (filled i b t w) ≡ fixups_of i
fixups_agree i b t w slots has none = fixups_at_agree i b t w (map (slot_range i.slot_width) slots) (i.directory 5) has none
