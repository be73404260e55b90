-- A descriptor is whole exactly if it has no finding.
use Rattle.std.proofs.Common.{◌≡◌, ◌∙◌, refl, ℕ, zero, suc, ◌+◌, ◌-◌, ◌*◌, ◌<◌, ◌≤◌, Bool, true, false, cond, not, ◌&&◌, List, [], ◌∷◌, length, sym, ap, inl, inr, arith}
use Rattle.std.specs.Prelude.{◌==◌, map, take_while, is_some, is_none, Option, Some, None}
use Rattle.std.specs.List.{range_with_len}
use Rattle.std.proofs.Math.Nat.{le-min, le-mul_of_pos_right, min-le_left}
use Rattle.std.proofs.lemmas.Bool.{and_parts, and_from, cases_Bool, eq-eqb, not-false, not_from_false, not_from_true, or_from, cases_lt, both_ways}
use Rattle.pe_view.specs.declared.fault.Fault.{Fault}
use Rattle.pe_view.specs.Standing.{standing}
use Rattle.pe_layout.specs.Image.{LaidOut, is_inside}
use Rattle.pe_tables.specs.Imports.{Lookup, ends_table}
use Rattle.pe_delay.specs.Entries.{entry_at, entry_count, has_other_bits, is_import, is_placed, lacks_name, most_after}
use Rattle.pe_delay.specs.Findings.{descriptor_tests, entry_tests, value_tests}
use Rattle.pe_delay.specs.Imports.{is_ended_by, is_whole}
use Rattle.pe_delay.specs.Tables.{module_of, tables_of}
use Rattle.pe_delay.specs.declared.descriptor.DelayDescriptor.{DelayDescriptor}
use Rattle.pe_delay.specs.declared.tables.Tables.{Tables}
use Rattle.pe_delay.proofs.Steps.{goes_inside, placed_goes}
use Rattle.pe_delay.proofs.Walks.{items_few, none_here, one_more}

-- where items end before the last, one fails
stops_from : {X : Type 0} (p : X → Bool) (f : ℕ → X) (fuel n k : ℕ) → n ≤ k + fuel → k + length (take_while p (map f (range_with_len k (n - k)))) < n
    → p (f (k + length (take_while p (map f (range_with_len k (n - k)))))) ≡ false
stops_from p f zero n k le lt = let past : n ≤ k = omega (arith, le) in absurd (omega (arith, lt, past))
stops_from {X} p f (suc fuel) n k le lt = elim (cases_lt k n) [
  | inl under ↦ elim (cases_Bool (p (f k))) [
    | inl passes ↦
        let rest : List X = take_while p (map f (range_with_len (k + 1) (n - (k + 1)))) in
        let len : length (take_while p (map f (range_with_len k (n - k)))) ≡ 1 + length rest = ap length (one_more p f n k under passes) ∙ omega arith in
        let at : k + 1 + length rest ≡ k + length (take_while p (map f (range_with_len k (n - k)))) = omega (arith, len) in
        let below : k + 1 + length rest < n = omega (arith, at, lt) in
        ap (λ (m : ℕ). p (f m)) (sym at) ∙ stops_from p f fuel n (k + 1) (omega (arith, le)) below
    | inr fails ↦
        let none : length (take_while p (map f (range_with_len k (n - k)))) ≡ 0 = ap length (none_here p f n k under fails) in
        let at : k + length (take_while p (map f (range_with_len k (n - k)))) ≡ k = omega (arith, none) in
        ap (λ (m : ℕ). p (f m)) at ∙ fails
  ]
  | inr past ↦ absurd (omega (arith, lt, past))
]

-- of a list of tests none of which holds
parts : (b : Bool) (y : Fault) (ys : List Fault) → cond b (y ∷ ys) ys ≡ [] → (b ≡ false) × (ys ≡ [])
parts true y ys none = absurd cc
parts false y ys none = (refl, none)

is_there : {X : Type 0} (o : Option X) → is_none o ≡ false → is_some o ≡ true
is_there None e = absurd cc
is_there (Some x) e = refl

is_not_none : {X : Type 0} (o : Option X) → is_some o ≡ true → is_none o ≡ false
is_not_none None e = absurd cc
is_not_none (Some x) e = refl

module _ (i : LaidOut) (t : Tables) (read : ℕ) (l : Lookup) where
  -- an entry of 0 has no finding
  end_clear : is_ended_by i l ≡ true → standing (entry_tests i t read l) ≡ []
  end_clear ended =
      let p = and_parts (is_inside i l.rva i.slot_width) (l.value == 0) ended in
      let inside : is_inside i l.rva i.slot_width ≡ true = p.0 in
      let zero_value : (l.value == 0) ≡ true = p.1 in
      rw (inside, zero_value) refl

  -- one without a finding that is not 0 imports, and fewer than 1,048,576 were read before it
  clear_import : standing (entry_tests i t read l) ≡ [] → is_ended_by i l ≡ false → (is_import i t l ≡ true) × ((read == 1048576) ≡ false)
  clear_import none not_end =
      let first = parts _ _ _ none in
      let inside : is_inside i l.rva i.slot_width ≡ true = not-false _ first.0 in
      elim (cases_Bool (l.value == 0)) [
        | inl is_zero ↦ absurd (both_ways (is_ended_by i l) not_end (and_from (is_inside i l.rva i.slot_width) (l.value == 0) inside is_zero))
        | inr not_zero ↦
            let goes : ends_table i l ≡ false = or_from (not (is_inside i l.rva i.slot_width)) (l.value == 0) (not_from_true _ inside) not_zero in
            let values : standing (value_tests i t read l) ≡ [] = ap (λ (b : Bool). standing (cond b [] (value_tests i t read l))) (sym goes) ∙ first.1 in
            let a = parts _ _ _ values in
            let b = parts _ _ _ a.1 in
            let d = parts _ _ _ b.1 in
            let e = parts _ _ _ d.1 in
            let slot : is_inside i l.slot i.slot_width ≡ true = not-false _ d.0 in
            let placed : is_placed i t l ≡ true =
            and_from (not (ends_table i l)) (is_inside i l.slot i.slot_width && not (has_other_bits i t l.value)) (not_from_false _ goes)
            (and_from (is_inside i l.slot i.slot_width) (not (has_other_bits i t l.value)) slot (not_from_false _ b.0)) in
            (and_from (is_placed i t l) (not (lacks_name i t l.value)) placed (not_from_false _ a.0), e.0)
      ]

module _ (i : LaidOut) (read : ℕ) (d : DelayDescriptor) where
  abbrev t : Tables
  t = tables_of i d

  abbrev count : ℕ
  count = entry_count i t read

  pub whole_clear : is_whole i read d ≡ true → standing (descriptor_tests i read d) ≡ []
  whole_clear whole =
      let p = and_parts (is_some (module_of i d)) (is_ended_by i (entry_at i t count)) whole in
      let named : is_none (module_of i d) ≡ false = is_not_none (module_of i d) p.0 in
      let rest = end_clear i t (read + count) (entry_at i t count) p.1 in
      rw named rest

  -- the entry after the last that imports
  last : 0 < i.slot_width → read ≤ 1048576 → standing (entry_tests i t (read + count) (entry_at i t count)) ≡ [] → is_ended_by i (entry_at i t count) ≡ true
  last some few none = elim (cases_Bool (is_ended_by i (entry_at i t count))) [
    | inl ended ↦ ended
    | inr not_end ↦
        let imports = clear_import i t (read + count) (entry_at i t count) none not_end in
        absurd (elim (cases_lt count (most_after i read)) [
          | inl under ↦
              let at : 0 + count ≡ count = omega arith in
              let fails = stops_from (is_import i t) (entry_at i t) (most_after i read) (most_after i read) 0 (omega arith) (rw at under) in
              both_ways (is_import i t (entry_at i t count)) (ap (λ (m : ℕ). is_import i t (entry_at i t m)) (sym at) ∙ fails) imports.0
          | inr past ↦ elim (cases_lt count (1048576 - read)) [
            | inl below ↦ elim (cases_lt count i.size) [
              | inl within ↦
                  let least : count + 1 ≤ most_after i read = le-min (omega (arith, below)) (omega (arith, within)) in
                  omega (arith, least, past)
              | inr over ↦
                  let held = goes_inside i (entry_at i t count) (placed_goes i t (entry_at i t count) (and_parts _ _ imports.0).0) in
                  let wide : count ≤ count * i.slot_width = le-mul_of_pos_right count some in
                  omega (arith, held, wide, over, some)
            ]
            | inr reached ↦
                let most = items_few (is_import i t) (entry_at i t) (most_after i read) 0 in
                let left = min-le_left (1048576 - read) i.size in
                let all : read + count ≡ 1048576 = omega (arith, reached, most, left, few) in
                both_ways (read + count == 1048576) imports.1 (eq-eqb (read + count) 1048576 all)
          ]
        ])
  ]

  pub clear_whole : 0 < i.slot_width → read ≤ 1048576 → standing (descriptor_tests i read d) ≡ [] → is_whole i read d ≡ true
  clear_whole some few none =
      let first = parts _ _ _ none in
      and_from (is_some (module_of i d)) (is_ended_by i (entry_at i t count)) (is_there (module_of i d) first.0) (last some few first.1)
