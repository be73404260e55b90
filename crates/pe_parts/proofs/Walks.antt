-- The tests of all that a table reads, by steps of the walks that make them.
use Rattle.std.proofs.Common.{◌≡◌, ℕ, zero, suc, ◌+◌, ◌-◌, ◌*◌, ◌<◌, ◌≤◌, Bool, true, false, refl, ◌∙◌, arith, inl, inr}
use Rattle.std.specs.Prelude.{◌==◌, ◌&&◌, ◌||◌, nat_le}
use Rattle.std.specs.List.{list_all, range_with_len}
use Rattle.std.proofs.lemmas.Bool.{cases_Bool, eqb-true, leb-true, and_parts, and_left, and_right, and_from, or_from, or_left, or_right, not_from_true}
use Rattle.pe_head.specs.declared.headers.Headers.{Headers}
use Rattle.pe_layout.specs.Image.{LaidOut, number_at, is_inside}
use Rattle.pe_tables.specs.Imports.{descriptor_at, descriptors_from, is_null, ends_list, lookup_table, lookup_at, lookups_from, ends_table}
use Rattle.pe_parts.specs.AtHand.{held_end, has_text, has_names, has_name, has_lookup, has_lookups, has_descriptor, has_descriptors, is_before}
use Rattle.pe_parts.proofs.AtHand.{zero_ends, null_ends}

-- all numbers of a range pass a test: one, and those after it
pub range_step : (test : ℕ → Bool) (k n : ℕ) → k < n → list_all test (range_with_len k (n - k)) ≡ (test k && list_all test (range_with_len (k + 1) (n - (k + 1))))
range_step test k n lt = let e : n - k ≡ suc (n - (k + 1)) = omega arith in rw e refl

pub range_end : (test : ℕ → Bool) (k n : ℕ) → n ≤ k → list_all test (range_with_len k (n - k)) ≡ true
range_end test k n le = let e : n - k ≡ 0 = omega arith in rw e refl

-- the entries of a lookup table from one on decide whether all are there
pub record LookupsLeft (p : Headers) (i : LaidOut) (first rva : ℕ) : Type 0 where
  pub count : ℕ
  pub slot : ℕ
  pub enough : i.size ≤ rva + count
  pub same : has_lookups p i first ≡ list_all (has_lookup p i (held_end p first)) (lookups_from count i rva slot)

-- the same of the descriptors of an import table
pub record DescriptorsLeft (p : Headers) (i : LaidOut) (first rva : ℕ) : Type 0 where
  pub count : ℕ
  pub enough : i.size ≤ rva + count
  pub same : has_descriptors p i first ≡ list_all (λ d. has_descriptor p i (held_end p first) d.rva) (descriptors_from count i rva)

module _ (p : Headers) (i : LaidOut) (first rva : ℕ) where
  pub lookups_begin : LookupsLeft p i first first
  unfolding has_lookups
  lookups_begin = record { count = i.size; slot = 0; enough = omega arith; same = refl }

  lookups_fail : (n slot : ℕ) → has_lookup p i (held_end p first) (lookup_at i rva slot) ≡ false → list_all (has_lookup p i (held_end p first)) (lookups_from n i rva slot) ≡ false
  lookups_fail zero slot gone = and_left _ _ gone
  lookups_fail (suc n) slot gone = and_left _ _ gone

  -- an entry that is not there
  pub lookups_outside : LookupsLeft p i first rva → is_before i (held_end p first) rva i.slot_width ≡ false → has_lookups p i first ≡ false
  lookups_outside left gone = left.same ∙ lookups_fail left.count left.slot (and_left _ _ gone)

  pub lookups_unnamed : LookupsLeft p i first rva → has_name p i (number_at i.slot_width i rva) ≡ false → has_lookups p i first ≡ false
  lookups_unnamed left gone = left.same ∙ lookups_fail left.count left.slot (and_right _ _ gone)

  module _ (before : is_before i (held_end p first) rva i.slot_width ≡ true) (name : has_name p i (number_at i.slot_width i rva) ≡ true) where
    lookup_inside : is_inside i rva i.slot_width ≡ true
    lookup_inside = (and_parts (is_inside i rva i.slot_width) (nat_le (rva + i.slot_width) (held_end p first)) before).0

    lookup_holds : (slot : ℕ) → has_lookup p i (held_end p first) (lookup_at i rva slot) ≡ true
    lookup_holds slot = and_from _ _ before name

    lookups_stop : (n slot : ℕ) → ends_table i (lookup_at i rva slot) ≡ true → list_all (has_lookup p i (held_end p first)) (lookups_from n i rva slot) ≡ true
    lookups_stop zero slot ends = and_from _ _ (lookup_holds slot) refl
    lookups_stop (suc n) slot ends = and_from _ _ (lookup_holds slot) (rw ends refl)

    -- a null one, which ends the table
    pub lookups_null : LookupsLeft p i first rva → number_at i.slot_width i rva ≡ 0 → has_lookups p i first ≡ true
    lookups_null left null = left.same ∙ lookups_stop left.count left.slot (zero_ends i rva null)

    lookups_next : (n slot : ℕ) → i.size ≤ rva + n → has_lookups p i first ≡ list_all (has_lookup p i (held_end p first)) (lookups_from n i rva slot)
        → ends_table i (lookup_at i rva slot) ≡ false → 0 < i.slot_width → LookupsLeft p i first (rva + i.slot_width)
    lookups_next zero slot enough same goes some = let in_image : rva + i.slot_width ≤ i.size = leb-true _ _ lookup_inside in absurd (omega (arith, enough, in_image, some))
    lookups_next (suc n) slot enough same goes some = record {
      count = n;
      slot = slot + i.slot_width;
      enough = omega (arith, enough, some);
      same = same ∙ rw (lookup_holds slot, goes) refl;
    }

    -- another one
    pub lookups_more : LookupsLeft p i first rva → (number_at i.slot_width i rva == 0) ≡ false → 0 < i.slot_width → LookupsLeft p i first (rva + i.slot_width)
    lookups_more left more some = lookups_next left.count left.slot left.enough left.same (or_from _ _ (not_from_true _ lookup_inside) more) some

  pub descriptors_begin : DescriptorsLeft p i first first
  unfolding has_descriptors
  descriptors_begin = record { count = i.size; enough = omega arith; same = refl }

  descriptors_fail : (n : ℕ) → has_descriptor p i (held_end p first) rva ≡ false → list_all (λ d. has_descriptor p i (held_end p first) d.rva) (descriptors_from n i rva) ≡ false
  descriptors_fail zero gone = and_left _ _ gone
  descriptors_fail (suc n) gone = and_left _ _ gone

  -- a descriptor that is not there, or whose name or lookup table is not
  pub descriptors_outside : DescriptorsLeft p i first rva → is_before i (held_end p first) rva 20 ≡ false → has_descriptors p i first ≡ false
  descriptors_outside left gone = left.same ∙ descriptors_fail left.count (and_left _ _ gone)

  pub descriptors_unread : DescriptorsLeft p i first rva → is_null (descriptor_at i rva) ≡ false
      → (has_text p (number_at 4 i (rva + 12)) && has_lookups p i (lookup_table (descriptor_at i rva))) ≡ false → has_descriptors p i first ≡ false
  descriptors_unread left some gone = left.same ∙ descriptors_fail left.count (and_right _ _ (or_from _ _ some gone))

  module _ (before : is_before i (held_end p first) rva 20 ≡ true) where
    descriptor_inside : is_inside i rva 20 ≡ true
    descriptor_inside = (and_parts (is_inside i rva 20) (nat_le (rva + 20) (held_end p first)) before).0

    descriptor_holds : (is_null (descriptor_at i rva) || (has_text p (number_at 4 i (rva + 12)) && has_lookups p i (lookup_table (descriptor_at i rva)))) ≡ true
        → has_descriptor p i (held_end p first) rva ≡ true
    descriptor_holds read = and_from _ _ before read

    descriptors_stop : (n : ℕ) → has_descriptor p i (held_end p first) rva ≡ true → ends_list i (descriptor_at i rva) ≡ true
        → list_all (λ d. has_descriptor p i (held_end p first) d.rva) (descriptors_from n i rva) ≡ true
    descriptors_stop zero there ends = and_from _ _ there refl
    descriptors_stop (suc n) there ends = and_from _ _ there (rw ends refl)

    -- a null one, which ends the table
    pub descriptors_null : DescriptorsLeft p i first rva → is_null (descriptor_at i rva) ≡ true → has_descriptors p i first ≡ true
    descriptors_null left null = left.same ∙ descriptors_stop left.count (descriptor_holds (or_left _ _ null)) (null_ends i rva null)

    descriptors_next : (n : ℕ) → i.size ≤ rva + n → has_descriptors p i first ≡ list_all (λ d. has_descriptor p i (held_end p first) d.rva) (descriptors_from n i rva)
        → has_descriptor p i (held_end p first) rva ≡ true → ends_list i (descriptor_at i rva) ≡ false → DescriptorsLeft p i first (rva + 20)
    descriptors_next zero enough same there goes = let in_image : rva + 20 ≤ i.size = leb-true _ _ descriptor_inside in absurd (omega (arith, enough, in_image))
    descriptors_next (suc n) enough same there goes = record { count = n; enough = omega (arith, enough); same = same ∙ rw (there, goes) refl }

    -- another one
    pub descriptors_more : DescriptorsLeft p i first rva → is_null (descriptor_at i rva) ≡ false
        → (has_text p (number_at 4 i (rva + 12)) && has_lookups p i (lookup_table (descriptor_at i rva))) ≡ true → DescriptorsLeft p i first (rva + 20)
    descriptors_more left some read =
        descriptors_next left.count left.enough left.same (descriptor_holds (or_right _ _ read)) (or_from _ _ (not_from_true _ descriptor_inside) some)

-- names whose array is in the image, or not
module _ (p : Headers) (i : LaidOut) (names count : ℕ) where
  pub names_outside : is_inside i names (4 * count) ≡ false → (count == 0) ≡ has_names p i names count
  unfolding has_names
  names_outside gone = elim (cases_Bool (count == 0)) [
    | inl e ↦ let none : count ≡ 0 = eqb-true count 0 e in rw none refl
    | inr e ↦ rw (e, gone) refl
  ]

  pub names_inside : is_inside i names (4 * count) ≡ true → has_names p i names count ≡ list_all (λ k. has_text p (number_at 4 i (names + 4 * k))) (range_with_len 0 count)
  unfolding has_names
  names_inside there = elim (cases_Bool (count == 0)) [
    | inl e ↦ rw e refl
    | inr e ↦ rw (e, there) refl
  ]
