-- What tables read is at hand, by steps of the walks that test it.
use Rattle.std.proofs.Common.{◌≡◌, ℕ, zero, suc, ◌+◌, ◌%◌, ◌^◌, ◌<◌, ◌≤◌, Bool, true, false, List, Option, refl, arith}
use Rattle.std.specs.Prelude.{◌||◌}
use Rattle.pe_head.specs.declared.headers.Headers.{Headers}
use Rattle.pe_layout.specs.Image.{LaidOut, number_at}
use Rattle.pe_tables.specs.Imports.{descriptor_at, is_null, ends_list, lookup_table, lookup_at, ends_table, is_ordinal}
use Rattle.pe_parts.specs.Filled.{AreAt, HasLookup, HaveLookups, HasDescriptor, HaveDescriptors}
use Rattle.pe_parts.specs.Packed.{at_hand, IsPieceAtHand, AgreeAtHand}

or_true : (b : Bool) → (b || true) ≡ true
or_true true = refl
or_true false = refl

-- an entry with the value 0 ends its table, and a descriptor that is null its list
pub zero_ends : (i : LaidOut) (rva : ℕ) → number_at i.slot_width i rva ≡ 0 → ends_table i (lookup_at i rva 0) ≡ true
zero_ends i rva e = rw e (or_true _)

pub null_ends : (i : LaidOut) (rva : ℕ) → is_null (descriptor_at i rva) ≡ true → ends_list i (descriptor_at i rva) ≡ true
null_ends i rva e = rw e (or_true _)

module _ (p : Headers) (i : LaidOut) (b : ℕ → ℕ) (t : ℕ → Option (List ℕ)) (agree : AgreeAtHand p i b t) where
  -- bytes that are at hand are the image's
  pub range_there : (start end : ℕ) → ((k : ℕ) → start ≤ k → k < end → at_hand p k ≡ true) → AreAt i b start end
  range_there start end there = record { bytes = λ r low high. agree.bytes r (there r low high) }

  -- a part of them
  pub part_there : (first end start stop : ℕ) → ((k : ℕ) → first ≤ k → k < end → at_hand p k ≡ true) → first ≤ start → stop ≤ end → AreAt i b start stop
  part_there first end start stop there low high = record { bytes = λ r from to. agree.bytes r (there r (omega (arith, low, from)) (omega (arith, to, high))) }

  pub lookup_there : (first end rva : ℕ) → ((k : ℕ) → first ≤ k → k < end → at_hand p k ≡ true) → first ≤ rva → rva + i.slot_width ≤ end
      → (is_ordinal i (number_at i.slot_width i rva) ≡ false → IsPieceAtHand p (number_at i.slot_width i rva % 2 ^ 31 + 2)) → HasLookup i b t rva
  lookup_there first end rva there low high name = record {
    value = part_there first end rva (rva + i.slot_width) there low high;
    text = λ no. agree.texts (number_at i.slot_width i rva % 2 ^ 31 + 2) (name no);
  }

  pub descriptor_there : (first end rva : ℕ) → ((k : ℕ) → first ≤ k → k < end → at_hand p k ≡ true) → first ≤ rva → rva + 20 ≤ end
      → (is_null (descriptor_at i rva) ≡ false → IsPieceAtHand p (number_at 4 i (rva + 12)))
      → (is_null (descriptor_at i rva) ≡ false → (n : ℕ) → HaveLookups n i b t (lookup_table (descriptor_at i rva))) → HasDescriptor i b t rva
  descriptor_there first end rva there low high name lookups = record {
    itself = part_there first end rva (rva + 20) there low high;
    text = λ some. agree.texts (number_at 4 i (rva + 12)) (name some);
    lookups = λ some. lookups some i.size;
  }

module _ (i : LaidOut) (b : ℕ → ℕ) (t : ℕ → Option (List ℕ)) (rva : ℕ) where
  -- a table of entries ends here, or goes on
  pub lookups_end : HasLookup i b t rva → ends_table i (lookup_at i rva 0) ≡ true → (n : ℕ) → HaveLookups n i b t rva
  lookups_end has ends zero = has
  lookups_end has ends (suc n) = (has, λ e. absurd cc)

  pub lookups_on : HasLookup i b t rva → ((n : ℕ) → HaveLookups n i b t (rva + i.slot_width)) → (n : ℕ) → HaveLookups n i b t rva
  lookups_on has rest zero = has
  lookups_on has rest (suc n) = (has, λ e. rest n)

  -- the same of descriptors
  pub descriptors_end : HasDescriptor i b t rva → ends_list i (descriptor_at i rva) ≡ true → (n : ℕ) → HaveDescriptors n i b t rva
  descriptors_end has ends zero = has
  descriptors_end has ends (suc n) = (has, λ e. absurd cc)

  pub descriptors_on : HasDescriptor i b t rva → ((n : ℕ) → HaveDescriptors n i b t (rva + 20)) → (n : ℕ) → HaveDescriptors n i b t rva
  descriptors_on has rest zero = has
  descriptors_on has rest (suc n) = (has, λ e. rest n)
