-- A set with its delay-loaded imports is sound if it is without them.
use Rattle.std.proofs.Common.{◌≡◌, ◌+◌, ◌≤◌, ℕ, List, ◌++◌, Bool, true, false, not, length, Some, refl, sym, subst, arith, length-append}
use Rattle.std.specs.Prelude.{slice_get, All, AllPairs}
use Rattle.std.proofs.lemmas.List.Elements.{All-append, All-filter, All-weaker, filter_passes}
use Rattle.std.proofs.lemmas.List.Kept.{AllPairs-filter}
use Rattle.pe_layout.specs.Image.{LaidOut, slot_width_of}
use Rattle.pe_ranges.specs.Ranges.{meets_any, AreApart}
use Rattle.pe_tables.specs.Fixups.{width_of, range_of}
use Rattle.pe_tables.specs.ImportPlaces.{IsApart}
use Rattle.pe_tables.specs.Imports.{Import}
use Rattle.pe_tables.specs.declared.fixups.Fixup.{Fixup}
use Rattle.pe_delay.specs.Imports.{delay_imports_of}
use Rattle.pe_set.specs.DelayedImports.{slot_ranges, stays_inside, with_own_slots, delayed_in, fields_beside, with_imports, with_delayed}
use Rattle.pe_set.specs.Search.{resolve}
use Rattle.pe_set.specs.Set.{Module}
use Rattle.pe_set.specs.Sound.{IsSoundImage}
use Rattle.pe_set.proofs.Gathered.{all_got, got_all}
use Rattle.pe_set.proofs.Images.{IsFreeSlot, IsKnown}
use Rattle.pe_set.proofs.NumberedLists.{few_kept, got_mapped}
use Rattle.pe_set.proofs.OwnSlots.{meets_none, all_own, few_own, all_apart}
use Rattle.pe_set.proofs.Places.{apart_unless}

-- where the slots of delay-loaded imports are
pub record DelayLaws : Type 0 where
  pub inside : (i : LaidOut) → All (λ (import : Import). import.slot + i.slot_width ≤ i.size) (delay_imports_of i)
  pub few : (i : LaidOut) → length (delay_imports_of i) ≤ 1048576

not_true : (b : Bool) → not b ≡ true → b ≡ false
not_true true is = absurd cc
not_true false is = refl

-- ---- an image with more imports
module _ (m : Module) (more : List Import) where
  -- the fields that are left share no byte with a slot of those
  off_fields : (k : ℕ) (x : Import) → slice_get more k ≡ Some x
      → All (λ (f : Fixup). AreApart (x.slot, m.image.slot_width) (range_of f)) (fields_beside (slot_ranges m.image.slot_width more) m.fixups)
  off_fields k x at =
      let w = m.image.slot_width in
      All-weaker (λ (f : Fixup). not (meets_any f.field (width_of f.kind) (slot_ranges w more)) ≡ true) (λ (f : Fixup). AreApart (x.slot, w) (range_of f))
      (λ f passes. apart_unless f.field (width_of f.kind) x.slot w
      (meets_none f.field (width_of f.kind) w more k x (not_true (meets_any f.field (width_of f.kind) (slot_ranges w more)) passes) at))
      (fields_beside (slot_ranges w more) m.fixups)
      (filter_passes (λ (f : Fixup). not (meets_any f.field (width_of f.kind) (slot_ranges w more))) m.fixups)

  module _ (is : IsKnown 1048576 m) where
    sound_image : IsSoundImage (with_imports more m)
    sound_image =
        let few = few_kept (λ (f : Fixup). not (meets_any f.field (width_of f.kind) (slot_ranges m.image.slot_width more))) m.fixups in
        let all = is.image.few in
        record {
          some = is.image.some;
          small = is.image.small;
          inside = All-filter (λ (f : Fixup). not (meets_any f.field (width_of f.kind) (slot_ranges m.image.slot_width more))) (λ (f : Fixup). f.field + width_of f.kind ≤ m.image.size) m.fixups is.image.inside;
          apart = AllPairs-filter (λ (f g : Fixup). AreApart (range_of f) (range_of g)) (λ (f : Fixup). not (meets_any f.field (width_of f.kind) (slot_ranges m.image.slot_width more))) m.fixups is.image.apart;
          few = omega (arith, few, all);
        }

    -- the slots of its own imports
    own_free : (x : Import) → IsFreeSlot m x → IsFreeSlot (with_imports more m) x
    own_free x free = record {
      inside = free.inside;
      off_fields = All-filter (λ (f : Fixup). not (meets_any f.field (width_of f.kind) (slot_ranges m.image.slot_width more))) (λ (f : Fixup). AreApart (x.slot, slot_width_of m.magic) (range_of f)) m.fixups free.off_fields;
    }

    -- and those of the others
    more_free : (k : ℕ) (x : Import) → slice_get more k ≡ Some x → x.slot + m.image.slot_width ≤ m.image.size → IsFreeSlot (with_imports more m) x
    more_free k x at inside = record {
      inside = subst (λ (w : ℕ). x.slot + w ≤ m.image.size) is.width inside;
      off_fields = subst (λ (w : ℕ). All (λ (f : Fixup). AreApart (x.slot, w) (range_of f)) (fields_beside (slot_ranges m.image.slot_width more) m.fixups)) is.width (off_fields k x at);
    }

    -- it is known too
    known_with : All (λ (x : Import). x.slot + m.image.slot_width ≤ m.image.size) more → AllPairs (IsApart m.image.slot_width) (m.imports ++ more) → length more ≤ 1048576
        → IsKnown 2097152 (with_imports more m)
    known_with inside apart few =
        let own = is.slots_few in
        let sum = length-append m.imports more in
        record {
          image = sound_image;
          width = is.width;
          slots = All-append (IsFreeSlot (with_imports more m)) m.imports more
              (All-weaker (IsFreeSlot m) (IsFreeSlot (with_imports more m)) own_free m.imports is.slots)
              (all_got (IsFreeSlot (with_imports more m)) more (λ k x at. more_free k x at (got_all (λ (x : Import). x.slot + m.image.slot_width ≤ m.image.size) more k x inside at)));
          slots_apart = subst (λ (w : ℕ). AllPairs (IsApart w) (m.imports ++ more)) is.width apart;
          slots_few = omega (arith, own, sum, few);
          targets = is.targets;
        }

-- ---- the images of a set
module _ (laws : DelayLaws) (s : List Module) where
  delayed_known : (m : Module) → IsKnown 1048576 m → IsKnown 2097152 (with_imports (delayed_in s m) m)
  delayed_known m is =
      let i = m.image in
      let stays : Import → Bool = λ (x : Import). stays_inside (resolve s x.module_name x.key) in
      let own = with_own_slots i m.imports in
      let fewer = few_kept stays own in
      let few = few_own i m.imports (laws.few i) in
      known_with m (delayed_in s m) is
      (All-filter stays (λ (x : Import). x.slot + i.slot_width ≤ i.size) own (all_own i m.imports (λ (x : Import). x.slot + i.slot_width ≤ i.size) (laws.inside i)))
      (all_apart i m.imports stays (subst (λ (w : ℕ). AllPairs (IsApart w) m.imports) (sym is.width) is.slots_apart))
      (omega (arith, fewer, few))

  pub all_known : ((j : ℕ) (m : Module) → slice_get s j ≡ Some m → IsKnown 1048576 m) → (j : ℕ) (m : Module) → slice_get (with_delayed s) j ≡ Some m → IsKnown 2097152 m
  unfolding with_delayed
  all_known each j m at =
      let from = got_mapped (λ (m : Module). with_imports (delayed_in s m) m) s j m at in
      subst (IsKnown 2097152) (sym from.2) (delayed_known from.0 (each j from.0 from.1))
