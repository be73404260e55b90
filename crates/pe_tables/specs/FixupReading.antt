-- The fixups of a base relocation table read so far. No contract of a public function cites it.
use Rattle.std.specs.Prelude.{◌≡◌, ℕ, ◌+◌, ◌<◌, ◌≤◌, Bool, true, false, List, ◌++◌, Option, None, Some, map, drop, All, AllPairs, IsTrue, MatchOption, is_none, ⊤}
use Rattle.std.specs.List.{filter_map}
use Rattle.pe_view.specs.Faults.{first_standing}
use Rattle.pe_layout.specs.Image.{LaidOut}
use Rattle.pe_ranges.specs.Ranges.{AreApart, FitsBeside, Gains, SameRanges, meets_any, range_end}
use Rattle.pe_ranges.specs.RangesView.{ranges_in}
use Rattle.pe_tables.specs.Fixups.{Entry, fixup_of, range_of, width_of}
use Rattle.pe_tables.specs.Encoded.{type_of}
use Rattle.pe_tables.specs.declared.entry_run.Run.{Run}
use Rattle.pe_tables.specs.FixupFaults.{entries_tests}
use Rattle.pe_tables.specs.declared.fixups.Fixup.{Fixup}
use Rattle.pe_ranges.specs.declared.ranges.Ranges.{Ranges}
use Rattle.pe_tables.specs.declared.found_fixups.FoundFixups.{FoundFixups}

-- no field ends after this RVA
abbrev pub EndAt : ℕ → List Fixup → Type 0
EndAt end fixups = All (λ (f : Fixup). range_end (range_of f) ≤ end) fixups

-- each field begins after those before it
abbrev pub AreRising : List Fixup → Type 0
AreRising fixups = AllPairs (λ (f later : Fixup). range_end (range_of f) ≤ later.field) fixups

-- a range can be added to those that are there
abbrev pub FitsBesideAny : {A : Type 0} → ℕ → ℕ → Option (Ranges A) → Type 0
FitsBesideAny start len fields = MatchOption fields ⊤ (λ ranges. All (FitsBeside start len) (ranges_in ranges))

-- the ranges that were there, with one more
abbrev pub GainsAny : {A : Type 0} → Option (Ranges A) → Option (Ranges A) → ℕ × ℕ → Type 0
GainsAny {A} old new range = MatchOption old (new ≡ None) (λ ranges. (more : Ranges A) × (new ≡ Some more) × Gains (ranges_in ranges) (ranges_in more) range)

-- no two fields share a byte
abbrev pub AreAllApart : List Fixup → Type 0
AreAllApart fixups = AllPairs AreApart (map range_of fixups)

-- where the fields end, whether they ascend, and their ranges, if these are collected
pub record IsIndexed {A : Type 0} (found : FoundFixups A) : Type 0 where
  pub ends : EndAt found.end found.fixups.items
  pub rising : IsTrue found.ascending → AreRising found.fixups.items
  pub fields : MatchOption found.fields ⊤ (λ fields. SameRanges (ranges_in fields) (map range_of found.fixups.items))

-- fields ascend only if one that begins at this RVA, the last that was tested, begins after all others
abbrev pub Tells : {A : Type 0} → FoundFixups A → ℕ → Type 0
Tells found field = IsTrue found.ascending → found.end ≤ field

-- whether a field meets another, if it is compared with all of them
abbrev pub IsMet : {A : Type 0} → FoundFixups A → ℕ → ℕ → Bool → Type 0
IsMet found field width met = MatchOption found.fields (met ≡ false) (λ _. met ≡ meets_any field width (map range_of found.fixups.items))

-- no two fields share a byte; nothing is said where each is compared with all before it
abbrev pub IsSettled : {A : Type 0} → FoundFixups A → Type 0
IsSettled found = is_none found.fields ≡ true → AreAllApart found.fixups.items

-- the fixups and ranges are what they were
pub record IsKept {A : Type 0} (old new : FoundFixups A) : Type 0 where
  pub fixups : new.fixups ≡ old.fixups
  pub fields : new.fields ≡ old.fields
  pub indexed : IsIndexed new

-- some more fixups were read, whatever the result is
pub record Keeps {A : Type 0} (old new : FoundFixups A) : Type 0 where
  pub more : List Fixup
  pub fixups : new.fixups.items ≡ old.fixups.items ++ more
  pub fields : is_none new.fields ≡ is_none old.fields
  pub indexed : is_none new.fields ≡ true → IsIndexed new

-- these fixups were read
pub record Reads {A : Type 0} (old new : FoundFixups A) (more : List Fixup) : Type 0 where
  pub fixups : new.fixups.items ≡ old.fixups.items ++ more
  pub indexed : IsIndexed new

-- what fields of a kind have in common in this image
pub record IsRunOf (i : LaidOut) (run : Run) : Type 0 where
  pub entry_type : run.entry_type ≡ type_of run.kind
  pub width : run.width ≡ width_of run.kind
  pub size : run.size ≡ i.size

-- of some entries those before an index were read, and have no fault
pub record ReadsUpTo {A : Type 0} (i : LaidOut) (slots : List (ℕ × ℕ)) (entries : List Entry) (old new : FoundFixups A) (index : ℕ) : Type 0 where
  pub tests : first_standing (entries_tests i slots new.fixups.items (drop index entries)) ≡ first_standing (entries_tests i slots old.fixups.items entries)
  pub fixups : new.fixups.items ++ filter_map fixup_of (drop index entries) ≡ old.fixups.items ++ filter_map fixup_of entries
  pub indexed : IsIndexed new

-- no field that begins in the page at an RVA has a byte of these ranges
abbrev pub IsClear : ℕ → List (ℕ × ℕ) → Type 0
IsClear page ranges = (start width : ℕ) → page ≤ start → start < page + 4096 → width ≤ 8 → meets_any start width ranges ≡ false
