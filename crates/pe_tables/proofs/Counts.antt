-- How many fixups an image without a fault of its base relocation table has.
use Rattle.std.proofs.Common.{◌≡◌, ◌∙◌, ◌+◌, ◌-◌, ◌*◌, ◌/◌, ◌<◌, ◌≤◌, ◌^◌, ℕ, zero, suc, false, List, [], ◌∷◌, ◌++◌, length, Option, None, Some, refl, ap, arith, inl, inr, length-append}
use Rattle.std.specs.Prelude.{not, map, option_to_list}
use Rattle.std.specs.List.{filter_map, flat_map}
use Rattle.std.proofs.lemmas.Bool.{cases_Bool, ltb-false, or_parts}
use Rattle.std.proofs.lemmas.List.FromFn.{length-map-range_with_len}
use Rattle.pe_view.specs.Faults.{Test, first_standing}
use Rattle.pe_view.specs.FirstStanding.{none-append, none_stands}
use Rattle.pe_head.specs.declared.directory.Directory.{Directory}
use Rattle.pe_layout.specs.Image.{LaidOut, is_inside, fault_at}
use Rattle.pe_tables.specs.Fixups.{Block, block_at, blocks_from, blocks_of, ends_table, entry_at, entries_of, fixup_of, fixups_in, fixups_at, fixups_of, slot_range}
use Rattle.pe_tables.specs.FixupFaults.{is_bad_size, size_test, entries_tests, blocks_tests, fixup_tests_at, fixup_tests}
use Rattle.pe_tables.proofs.Entries.{filter_map-cons}
use Rattle.pe_tables.proofs.Lookups.{affirmed, leb-≤}
use Rattle.pe_tables.specs.declared.fixups.Fixup.{Fixup}

length_some : {X : Type 0} (o : Option X) → length (option_to_list o) ≤ 1
length_some None = omega arith
length_some (Some x) = omega arith

pub length-filter_map : {X Y : Type 0} (f : X → Option Y) (xs : List X) → length (filter_map f xs) ≤ length xs
length-filter_map f [] = omega arith
length-filter_map f (x ∷ xs) =
    let more = length-filter_map f xs in
    let one = length_some (f x) in
    let parts = ap length (filter_map-cons f x xs) ∙ length-append (option_to_list (f x)) (filter_map f xs) in
    omega (arith, more, one, parts)

-- each fixup of a block takes two of its bytes
own_few : (i : LaidOut) (b : Block) → 2 * length (fixups_in i b) ≤ b.size
own_few i b =
    let some = length-filter_map fixup_of (entries_of i b) in
    let all = length-map-range_with_len (entry_at i b) 0 ((b.size - 8) / 2) in
    let half : 2 * ((b.size - 8) / 2) ≤ b.size = omega arith in
    omega (arith, some, all, half)

within : (end rva size : ℕ) → is_bad_size end rva size ≡ false → rva + size ≤ end
within end rva size good = ltb-false _ _ (or_parts _ _ (or_parts _ _ good).1).1

blocks_few : (i : LaidOut) (slots : List (ℕ × ℕ)) (end n rva : ℕ) (before : List Fixup) → rva ≤ end → first_standing (blocks_tests i slots end before (blocks_from n i end rva)) ≡ None
    → 2 * length (flat_map (fixups_in i) (blocks_from n i end rva)) + rva ≤ end
unfolding blocks_tests
blocks_few i slots end zero rva before le none = omega arith
blocks_few i slots end (suc n) rva before le none = elim (cases_Bool (ends_table i end rva)) [
  | inl ends ↦ rw ends (omega arith)
  | inr goes ↦
      (let b = block_at i rva in
      let rest = blocks_from n i end (rva + b.size) in
      let tests = rw goes at none in
      let behind = none-append (size_test i end b ∷ entries_tests i slots before (entries_of i b)) (blocks_tests i slots end (before ++ fixups_in i b) rest) tests in
      let fits = within end rva b.size (none_stands (size_test i end b ∷ entries_tests i slots before (entries_of i b)) 0 (size_test i end b) behind.0 refl) in
      let later = blocks_few i slots end n (rva + b.size) (before ++ fixups_in i b) fits behind.1 in
      let own = own_few i b in
      let parts = length-append (fixups_in i b) (flat_map (fixups_in i) rest) in
      rw goes (omega (arith, later, own, parts)))
]

table_few : (i : LaidOut) (slots : List (ℕ × ℕ)) (d : Option Directory) → first_standing (fixup_tests_at i slots d) ≡ None → 2 * length (fixups_at i d) ≤ i.size
table_few i slots None none = omega arith
table_few i slots (Some d) none =
    let first : Test = record { stands = not (is_inside i d.rva d.size); fault = fault_at 34 i d.rva } in
    let behind = none-append (first ∷ []) (blocks_tests i slots (d.rva + d.size) [] (blocks_of i d)) none in
    let inside : d.rva + d.size ≤ i.size = leb-≤ _ _ (affirmed _ (none_stands (first ∷ []) 0 first behind.0 refl)) in
    let few = blocks_few i slots (d.rva + d.size) d.size d.rva [] (omega arith) behind.1 in
    omega (arith, inside, few)

-- an image of at most 2^31 bytes has fewer fixups than that
pub fixups_few : (i : LaidOut) (slots : List ℕ) → i.size ≤ 2 ^ 31 → first_standing (fixup_tests i slots) ≡ None → length (fixups_of i) < 2 ^ 31
fixups_few i slots small none = let few = table_few i (map (slot_range i.slot_width) slots) (i.directory 5) none in omega (arith, few)
