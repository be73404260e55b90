-- Fixups without a fault: their fields are in the image, and share no byte with one another or with a slot.
use Rattle.std.proofs.Common.{◌≡◌, ℕ, ◌+◌, ◌≤◌, false, not, List, [], ◌∷◌, ◌++◌, get_or, Option, Some, None, sym, ap, subst, ◌∙◌, append_assoc, append-nil, refl}
use Rattle.std.specs.Prelude.{map, All, AllPairs, option_to_list}
use Rattle.std.specs.List.{filter_map, flat_map}
use Rattle.std.proofs.lemmas.List.Elements.{All-nil, All-append, All-cons}
use Rattle.pe_view.specs.Faults.{Test, first_standing}
use Rattle.pe_view.specs.FirstStanding.{none-append, none_stands}
use Rattle.pe_head.specs.declared.directory.Directory.{Directory}
use Rattle.pe_layout.specs.Image.{LaidOut, is_inside, fault_at}
use Rattle.pe_ranges.specs.Ranges.{meets, meets_any, AreApart}
use Rattle.pe_tables.specs.Fixups.{Block, Entry, width_of, range_of, slot_range, is_known, fixup_of, entries_of, fixups_in, fixups_at, fixups_of, blocks_of}
use Rattle.pe_tables.specs.FixupFaults.{field_tests, entry_tests, entries_tests, size_test, blocks_tests, fixup_tests_at, fixup_tests}
use Rattle.pe_tables.specs.declared.fixups.Fixup.{Fixup}
use Rattle.pe_tables.proofs.Beside.{none_at, apart_range, list_any-map}
use Rattle.pe_tables.proofs.Entries.{filter_map-cons}
use Rattle.pe_tables.proofs.Lookups.{affirmed, leb-≤}
use Rattle.pe_ranges.proofs.Pairs.{AllPairs-nil, AllPairs-snoc}

-- the field shares no byte with any of these ranges
abbrev pub IsOff : List (ℕ × ℕ) → Fixup → Type 0
IsOff ranges f = All (λ (range : ℕ × ℕ). AreApart range (range_of f)) ranges

pub record IsFine (i : LaidOut) (slots : List (ℕ × ℕ)) (fixups : List Fixup) : Type 0 where
  pub inside : All (λ (f : Fixup). f.field + width_of f.kind ≤ i.size) fixups
  pub apart : AllPairs (λ (f g : Fixup). AreApart (range_of f) (range_of g)) fixups
  pub off : All (IsOff slots) fixups

off_all : (ranges : List (ℕ × ℕ)) (f : Fixup) → meets_any f.field (width_of f.kind) ranges ≡ false → IsOff ranges f
off_all ranges f none k d lt =
    apart_range f.field (width_of f.kind) (get_or ranges k d).0 (get_or ranges k d).1
    (none_at (λ (range : ℕ × ℕ). meets f.field (width_of f.kind) range.0 range.1) ranges k d none lt)

off_before : (before : List Fixup) (f : Fixup) → meets_any f.field (width_of f.kind) (map range_of before) ≡ false → All (λ (a : Fixup). AreApart (range_of a) (range_of f)) before
off_before before f none k d lt =
    let e = sym (list_any-map (λ range. meets f.field (width_of f.kind) range.0 range.1) range_of before) ∙ none in
    apart_range f.field (width_of f.kind) (get_or before k d).field (width_of (get_or before k d).kind)
    (none_at (λ (a : Fixup). meets f.field (width_of f.kind) a.field (width_of a.kind)) before k d e lt)

module _ (i : LaidOut) (slots : List (ℕ × ℕ)) where
  fine-nil : IsFine i slots []
  fine-nil = record { inside = All-nil _; apart = AllPairs-nil (λ (f g : Fixup). AreApart (range_of f) (range_of g)); off = All-nil _ }

  fine-snoc : (before : List Fixup) (f : Fixup) → IsFine i slots before → f.field + width_of f.kind ≤ i.size
      → meets_any f.field (width_of f.kind) (map range_of before) ≡ false → meets_any f.field (width_of f.kind) slots ≡ false → IsFine i slots (before ++ f ∷ [])
  fine-snoc before f fine inside none off = record {
    inside = All-append (λ (a : Fixup). a.field + width_of a.kind ≤ i.size) before (f ∷ []) fine.inside (All-cons (λ (a : Fixup). a.field + width_of a.kind ≤ i.size) f [] inside (All-nil _));
    apart = AllPairs-snoc (λ (f g : Fixup). AreApart (range_of f) (range_of g)) before f fine.apart (off_before before f none);
    off = All-append (IsOff slots) before (f ∷ []) fine.off (All-cons (IsOff slots) f [] (off_all slots f off) (All-nil _));
  }

  fixup-fine : (first : Test) (before : List Fixup) (o : Option Fixup) → IsFine i slots before → first_standing (first ∷ field_tests i slots before o) ≡ None → IsFine i slots (before ++ option_to_list o)
  fixup-fine first before None fine none = subst (IsFine i slots) (sym (append-nil before)) fine
  fixup-fine first before (Some f) fine none =
      let tests : List Test = first ∷ field_tests i slots before (Some f) in
      fine-snoc before f fine
      (leb-≤ _ _ (affirmed _ (none_stands tests 1 (record { stands = not (is_inside i f.field (width_of f.kind)); fault = fault_at 36 i f.entry }) none refl)))
      (none_stands tests 2 (record { stands = meets_any f.field (width_of f.kind) (map range_of before); fault = fault_at 37 i f.entry }) none refl)
      (none_stands tests 3 (record { stands = meets_any f.field (width_of f.kind) slots; fault = fault_at 38 i f.entry }) none refl)

  entries-fine : (es : List Entry) (before : List Fixup) → IsFine i slots before → first_standing (entries_tests i slots before es) ≡ None → IsFine i slots (before ++ filter_map fixup_of es)
  unfolding entries_tests
  entries-fine [] before fine none = subst (IsFine i slots) (sym (append-nil before)) fine
  entries-fine (e ∷ es) before fine none =
      let more : List Fixup = before ++ option_to_list (fixup_of e) in
      let parts = none-append (entry_tests i slots before e) (entries_tests i slots more es) none in
      subst (IsFine i slots)
      (append_assoc before (option_to_list (fixup_of e)) (filter_map fixup_of es) ∙ ap (λ (xs : List Fixup). before ++ xs) (sym (filter_map-cons fixup_of e es)))
      (entries-fine es more (fixup-fine (record { stands = not (is_known e.kind); fault = fault_at 35 i e.rva }) before (fixup_of e) fine parts.0) parts.1)

  blocks-fine : (end : ℕ) (bs : List Block) (before : List Fixup) → IsFine i slots before → first_standing (blocks_tests i slots end before bs) ≡ None → IsFine i slots (before ++ flat_map (fixups_in i) bs)
  unfolding blocks_tests
  blocks-fine end [] before fine none = subst (IsFine i slots) (sym (append-nil before)) fine
  blocks-fine end (b ∷ bs) before fine none =
      let behind = none-append (size_test i end b ∷ entries_tests i slots before (entries_of i b)) (blocks_tests i slots end (before ++ fixups_in i b) bs) none in
      let own = none-append (size_test i end b ∷ []) (entries_tests i slots before (entries_of i b)) behind.0 in
      subst (IsFine i slots) (append_assoc before (fixups_in i b) (flat_map (fixups_in i) bs))
      (blocks-fine end bs (before ++ fixups_in i b) (entries-fine (entries_of i b) before fine own.1) behind.1)

  table-fine : (o : Option Directory) → first_standing (fixup_tests_at i slots o) ≡ None → IsFine i slots (fixups_at i o)
  table-fine None none = fine-nil
  table-fine (Some d) none =
      let first : Test = record { stands = not (is_inside i d.rva d.size); fault = fault_at 34 i d.rva } in
      let behind = none-append (first ∷ []) (blocks_tests i slots (d.rva + d.size) [] (blocks_of i d)) none in
      blocks-fine (d.rva + d.size) (blocks_of i d) [] fine-nil behind.1

-- the fixups of an image without a fault of its base relocation table
pub fixups-fine : (i : LaidOut) (slots : List ℕ) → first_standing (fixup_tests i slots) ≡ None → IsFine i (map (slot_range i.slot_width) slots) (fixups_of i)
fixups-fine i slots none = table-fine i (map (slot_range i.slot_width) slots) (i.directory 5) none
