-- What holds for each image of an accepted set, by the laws of images.
use Rattle.std.proofs.Common.{◌≡◌, ◌∙◌, ◌+◌, ◌<◌, ◌≤◌, ◌^◌, ℕ, List, ◌++◌, length, map, None, Some, refl, sym, ap, subst, arith}
use Rattle.std.specs.Prelude.{slice_get, option_map, All, AllPairs}
use Rattle.std.proofs.lemmas.Option.{slice_get-map}
use Rattle.pe_view.specs.Faults.{first_standing}
use Rattle.pe_view.specs.FirstStanding.{none-append}
use Rattle.pe_head.specs.Accepted.{headers_nest}
use Rattle.pe_head.specs.Head.{head_of}
use Rattle.pe_head.specs.HeaderFaults.{head_tests}
use Rattle.pe_layout.specs.Image.{LaidOut, image_of_file, slot_width_of}
use Rattle.pe_layout.specs.SectionFaults.{placing_tests, layout_tests}
use Rattle.pe_tables.specs.ExportFaults.{export_tests}
use Rattle.pe_tables.specs.Exports.{exports_of, target_at}
use Rattle.pe_tables.specs.FixupFaults.{fixup_tests}
use Rattle.pe_tables.specs.Fixups.{fixups_of, width_of, range_of, slot_range}
use Rattle.pe_tables.specs.ImportFaults.{import_tests}
use Rattle.pe_tables.specs.ImportPlaces.{IsApart}
use Rattle.pe_tables.specs.Imports.{Import, imports_of}
use Rattle.pe_tables.specs.Key.{Key, Rva}
use Rattle.pe_ranges.specs.Ranges.{AreApart}
use Rattle.pe_tables.specs.declared.fixups.Fixup.{Fixup}
use Rattle.pe_image.specs.ImageTests.{image_tests, table_tests}
use Rattle.pe_set.specs.Set.{Entry, Module, module_of, modules_of}
use Rattle.pe_set.specs.SetFaults.{files_tests}
use Rattle.pe_set.specs.Sound.{IsSoundImage}
use Rattle.pe_set.proofs.Distinct.{numbered_none, entry_at}
use Rattle.pe_set.proofs.Gathered.{all_got, got_all}

-- the laws
pub record Laws : Type 0 where
  pub images_small : (image : ℕ) (file : List ℕ) → first_standing (layout_tests image file) ≡ None → (image_of_file image file).size ≤ 2 ^ 31
  pub slots_inside : (i : LaidOut) → first_standing (import_tests i) ≡ None → All (λ (import : Import). import.slot + i.slot_width ≤ i.size) (imports_of i)
  pub slots_apart : (i : LaidOut) → first_standing (import_tests i) ≡ None → AllPairs (IsApart i.slot_width) (imports_of i)
  pub slots_few : (i : LaidOut) → first_standing (import_tests i) ≡ None → length (imports_of i) ≤ 1048576
  pub fields_inside : (i : LaidOut) (slots : List ℕ) → first_standing (fixup_tests i slots) ≡ None → All (λ (f : Fixup). f.field + width_of f.kind ≤ i.size) (fixups_of i)
  pub fields_apart : (i : LaidOut) (slots : List ℕ) → first_standing (fixup_tests i slots) ≡ None → AllPairs (λ (f g : Fixup). AreApart (range_of f) (range_of g)) (fixups_of i)
  pub fields_off : (i : LaidOut) (slots : List ℕ) → first_standing (fixup_tests i slots) ≡ None
      → All (λ (f : Fixup). All (λ (slot : ℕ × ℕ). AreApart slot (range_of f)) (map (slot_range i.slot_width) slots)) (fixups_of i)
  pub fields_few : (i : LaidOut) (slots : List ℕ) → i.size ≤ 2 ^ 31 → first_standing (fixup_tests i slots) ≡ None → length (fixups_of i) < 2 ^ 31
  pub targets : (i : LaidOut) (key : Key) (rva : ℕ) → first_standing (export_tests i) ≡ None → target_at (exports_of i) key ≡ Some (Rva rva) → rva < i.size

-- the bytes of an import's slot
abbrev pub bytes_of : Module → Import → ℕ × ℕ
bytes_of m x = (x.slot, slot_width_of m.magic)

-- a slot lies in the image and shares no byte with a field
pub record IsFreeSlot (m : Module) (x : Import) : Type 0 where
  pub inside : x.slot + slot_width_of m.magic ≤ m.image.size
  pub off_fields : All (λ (f : Fixup). AreApart (bytes_of m x) (range_of f)) m.fixups

-- an image with at most so many imports, whose slots and fields are sound
pub record IsKnown (most : ℕ) (m : Module) : Type 0 where
  pub image : IsSoundImage m
  pub width : m.image.slot_width ≡ slot_width_of m.magic
  pub slots : All (IsFreeSlot m) m.imports
  pub slots_apart : AllPairs (IsApart (slot_width_of m.magic)) m.imports
  pub slots_few : length m.imports ≤ most
  pub targets : (key : Key) (rva : ℕ) → target_at m.exports key ≡ Some (Rva rva) → rva < m.image.size

-- fields that share no byte with slots, from the side of a slot
slot_off : (w : ℕ) (imports : List Import) (fixups : List Fixup)
    → All (λ (f : Fixup). All (λ (slot : ℕ × ℕ). AreApart slot (range_of f)) (map (slot_range w) (map (λ (x : Import). x.slot) imports))) fixups
    → (k : ℕ) (x : Import) → slice_get imports k ≡ Some x → All (λ (f : Fixup). AreApart (x.slot, w) (range_of f)) fixups
slot_off w imports fixups off k x at =
    let slots = map (λ (x : Import). x.slot) imports in
    let there : slice_get (map (slot_range w) slots) k ≡ Some (x.slot, w) =
    slice_get-map (slot_range w) slots k ∙ ap (option_map (slot_range w)) (slice_get-map (λ (x : Import). x.slot) imports k ∙ ap (option_map (λ (x : Import). x.slot)) at) in
    all_got (λ (f : Fixup). AreApart (x.slot, w) (range_of f)) fixups (λ j f own.
    got_all (λ (slot : ℕ × ℕ). AreApart slot (range_of f)) (map (slot_range w) slots) k (x.slot, w)
    (got_all (λ (f : Fixup). All (λ (slot : ℕ × ℕ). AreApart slot (range_of f)) (map (slot_range w) slots)) fixups j f off own) there)

module _ (laws : Laws) where
  -- the image of a file without a fault
  of_file : (n : ℕ) (e : Entry) → first_standing (image_tests n e.file) ≡ None → IsKnown 1048576 (module_of n e)
  unfolding image_tests table_tests
  of_file n e none =
      let i : LaidOut = image_of_file n e.file in
      let m = module_of n e in
      let slots = map (λ (x : Import). x.slot) (imports_of i) in
      let a = none-append (layout_tests n e.file) (export_tests i ++ (import_tests i ++ fixup_tests i slots)) none in
      let b = none-append (export_tests i) (import_tests i ++ fixup_tests i slots) a.1 in
      let d = none-append (import_tests i) (fixup_tests i slots) b.1 in
      let head = none-append (head_tests n e.file) (placing_tests n (head_of e.file) (length e.file)) a.0 in
      let small = laws.images_small n e.file a.0 in
      let inside = laws.slots_inside i d.0 in
      let off = laws.fields_off i slots d.1 in
      record {
        image = record {
          some = (headers_nest n e.file head.0).some;
          small = small;
          inside = laws.fields_inside i slots d.1;
          apart = laws.fields_apart i slots d.1;
          few = laws.fields_few i slots small d.1;
        };
        width = refl;
        slots = all_got (IsFreeSlot m) m.imports (λ k x at. record {
          inside = got_all (λ (x : Import). x.slot + i.slot_width ≤ i.size) (imports_of i) k x inside at;
          off_fields = slot_off i.slot_width (imports_of i) (fixups_of i) off k x at;
        });
        slots_apart = laws.slots_apart i d.0;
        slots_few = laws.slots_few i d.0;
        targets = λ key rva found. laws.targets i key rva b.0 found;
      }

  -- image j of a set of files without a fault
  pub known : (es : List Entry) → first_standing (files_tests es) ≡ None → (j : ℕ) (m : Module) → slice_get (modules_of es) j ≡ Some m → IsKnown 1048576 m
  unfolding files_tests modules_of
  known es none j m at =
      let from = entry_at es j m at in
      let here : 0 + j ≡ j = omega arith in
      let own = ap (λ k. first_standing (image_tests k from.0.file)) (sym here) ∙ numbered_none (λ i (e : Entry). image_tests i e.file) 0 es j from.0 none from.1 in
      subst (IsKnown 1048576) (sym from.2) (of_file j from.0 own)
