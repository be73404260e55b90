-- Sections with valid places have none of faults 13 to 15.
use Rattle.std.proofs.Common.{◌≡◌, ℕ, ◌+◌, ◌<◌, ◌≤◌, Bool, true, false, cond, List, [], ◌∷◌, None, refl, inl, inr, arith}
use Rattle.std.specs.Prelude.{nat_lt, min, ◌==◌, ◌&&◌}
use Rattle.std.proofs.lemmas.Bool.{cases_Bool, le-ltb, or_parts}
use Rattle.pe_view.specs.Faults.{first_standing}
use Rattle.pe_view.specs.FirstStanding.{none_stands, none-append}
use Rattle.pe_head.specs.declared.section.SectionHeader.{SectionHeader}
use Rattle.pe_head.specs.declared.headers.Headers.{Headers}
use Rattle.pe_head.specs.Section.{rawlen, extent}
use Rattle.pe_layout.specs.Piece.{end_of}
use Rattle.pe_layout.specs.SectionFaults.{sections_tests}
use Rattle.pe_write.specs.declared.plan.PlanSection.{PlanSection}
use Rattle.pe_write.specs.PlanFaults.{plan_test, is_misplaced, places_tests}
use Rattle.pe_write.specs.PlanFile.{align_up, is_empty, raw_size, raw_start, raw_end, header_from, headers_from, file_end}
use Rattle.pe_write.proofs.DataSteps.{end_most}
use Rattle.pe_write.proofs.Planned.{empty_rawlen}

least_of : (b : Bool) (x n : ℕ) → cond b 0 (min x n) ≤ n
least_of true x n = omega arith
least_of false x n = omega arith

rawlen_most : (s : SectionHeader) → rawlen s ≤ s.size_of_raw_data
rawlen_most s = least_of (s.pointer_to_raw_data == 0) (extent s) s.size_of_raw_data

and_none : (b c : Bool) → c ≡ false → (b && c) ≡ false
and_none true c is = is
and_none false c is = refl

module _ (a : ℕ) (some : 0 < a) where
  -- fault 13 does not hold for a section that ends at or before n
  held : (n end : ℕ) (s : PlanSection) → raw_end a end s ≤ n → (nat_lt 0 (rawlen (header_from a end s)) && nat_lt n (raw_start a end s + rawlen (header_from a end s))) ≡ false
  held n end s le = elim (cases_Bool (is_empty s)) [
    | inl empty ↦ (let none = empty_rawlen a some end s empty in rw none refl)
    | inr full ↦
        (let start : raw_start a end s ≡ align_up a end = rw full refl in
        let stop : raw_end a end s ≡ align_up a end + raw_size a s = rw full refl in
        let most = rawlen_most (header_from a end s) in
        and_none (nat_lt 0 (rawlen (header_from a end s))) _ (le-ltb _ _ (omega arith)))
  ]

  pub sections_none : (h : Headers) (n before i end : ℕ) (ss : List PlanSection) → file_end a end ss ≤ n
      → first_standing (places_tests h.size_of_image h.size_of_headers before (headers_from a end ss)) ≡ None
      → first_standing (sections_tests 0 h n before i (headers_from a end ss)) ≡ None
  unfolding places_tests sections_tests
  sections_none h n before i end [] le none = refl
  sections_none h n before i end (s ∷ ss) le none =
      let x : SectionHeader = header_from a end s in
      let others : List SectionHeader = headers_from a (raw_end a end s) ss in
      let here = or_parts (nat_lt h.size_of_image (end_of x)) _ (none_stands (places_tests h.size_of_image h.size_of_headers before (x ∷ others)) 0 _ none refl) in
      let rest = none-append (plan_test (is_misplaced h.size_of_image h.size_of_headers before x) ∷ []) (places_tests h.size_of_image h.size_of_headers (end_of x) others) none in
      let inside = held n end s (let most = end_most a some ss (raw_end a end s) in omega arith) in
      rw (inside, here.0, here.1) (sections_none h n (end_of x) (i + 1) (raw_end a end s) ss le rest.1)
