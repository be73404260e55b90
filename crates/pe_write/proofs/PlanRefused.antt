-- A plan whose file has none of faults 1 to 15 is not refused.
use Rattle.std.proofs.Common.{◌≡◌, ℕ, ◌+◌, ◌^◌, ◌<◌, ◌≤◌, false, List, [], ◌∷◌, length, None, refl, sym, ap, ◌∙◌, subst, arith}
use Rattle.std.specs.Prelude.{nat_lt, ◌==◌, ◌||◌}
use Rattle.std.specs.List.{AllByRecursion}
use Rattle.std.proofs.lemmas.Bool.{ltb-false, le-ltb, or_parts, or_from}
use Rattle.pe_view.specs.Faults.{first_standing}
use Rattle.pe_view.specs.FirstStanding.{none_stands, none-append}
use Rattle.pe_numbers.specs.declared.number.Number.TheVariants.{U32}
use Rattle.pe_numbers.specs.Numbers.{NumberFits}
use Rattle.pe_numbers.specs.ReadBack.{number_fits}
use Rattle.pe_head.specs.declared.optional.Magic.{Magic}
use Rattle.pe_head.specs.declared.optional.Magic.TheVariants.{Pe32, Pe32Plus}
use Rattle.pe_head.specs.declared.section.SectionHeader.{SectionHeader}
use Rattle.pe_head.specs.declared.headers.Headers.{Headers}
use Rattle.pe_head.specs.Head.{head_of, coff_field, field, section_start}
use Rattle.pe_head.specs.HeaderFaults.{head_tests}
use Rattle.pe_layout.specs.Piece.{end_of}
use Rattle.pe_layout.specs.SectionFaults.{layout_tests, placing_tests, section_tests, sections_tests}
use Rattle.pe_write.specs.declared.plan.Plan.{Plan}
use Rattle.pe_write.specs.PlanHeaders.{header_numbers, plan_file, plan_size, plan_sections, plan_headers}
use Rattle.pe_write.specs.PlanFaults.{is_wide, is_misplaced, table_end, places_tests, plan_tests}
use Rattle.pe_write.specs.PlanFits.{IsPlan}
use Rattle.pe_write.proofs.PlanFaults.{not_none}
use Rattle.pe_write.proofs.PlanLaws.{all_of, size_of_file}
use Rattle.pe_write.proofs.PlanWhole.{head-planned}

narrow_by : {A : Type 0} (plan : Plan A) (m : Magic) → plan.magic ≡ m → AllByRecursion NumberFits (header_numbers plan) → is_wide plan.magic plan.image_base ≡ false
narrow_by {A = A} plan Pe32 is fits =
    let same : record plan { magic = Pe32 } ≡ plan = ap (λ (m : Magic). record plan { magic = m }) (sym is) in
    let Narrow : Plan A → Type 0 = λ q. AllByRecursion NumberFits (header_numbers q) → is_wide q.magic q.image_base ≡ false in
    subst Narrow same (λ f. let small = number_fits (header_numbers (record plan { magic = Pe32 })) 0x74 (U32 plan.image_base) f refl in le-ltb _ _ (omega arith)) fits
narrow_by plan Pe32Plus is fits = ap (λ (m : Magic). is_wide m plan.image_base) is

-- sections without faults 14 and 15 have valid places
places_none : (h : Headers) (n before i : ℕ) (ss : List SectionHeader) → first_standing (sections_tests 0 h n before i ss) ≡ None → first_standing (places_tests h.size_of_image h.size_of_headers before ss) ≡ None
unfolding places_tests sections_tests
places_none h n before i [] none = refl
places_none h n before i (s ∷ ss) none =
    let parts = none-append (section_tests 0 h n before i s) (sections_tests 0 h n (end_of s) (i + 1) ss) none in
    let inside : nat_lt h.size_of_image (end_of s) ≡ false = none_stands (section_tests 0 h n before i s) 1 _ parts.0 refl in
    let behind : (nat_lt s.virtual_address h.size_of_headers || nat_lt s.virtual_address before) ≡ false = none_stands (section_tests 0 h n before i s) 2 _ parts.0 refl in
    let here : is_misplaced h.size_of_image h.size_of_headers before s ≡ false = or_from (nat_lt h.size_of_image (end_of s)) _ inside behind in
    rw here (places_none h n (end_of s) (i + 1) ss parts.1)

module _ {A : Type 0} (plan : Plan A) (fits : IsPlan plan) (some : 0 < plan.file_alignment) (none : first_standing (layout_tests 0 (plan_file plan)) ≡ None) where
  head_none : first_standing (head_tests 0 (plan_file plan)) ≡ None
  head_none = (none-append (head_tests 0 (plan_file plan)) (placing_tests 0 (head_of (plan_file plan)) (length (plan_file plan))) none).0

  sections_fine : first_standing (places_tests plan.size_of_image plan.size_of_headers 0 (plan_sections plan)) ≡ None
  sections_fine =
      let g = plan_file plan in
      let parts = none-append (head_tests 0 g) (placing_tests 0 (head_of g) (length g)) none in
      places_none (plan_headers plan) (length g) 0 0 (plan_sections plan) (ap (λ (h : Headers). first_standing (placing_tests 0 h (length g))) (sym (head-planned plan fits)) ∙ parts.1)

  count_fine : nat_lt 96 (length plan.sections.items) ≡ false
  unfolding head_tests
  count_fine =
      let g = plan_file plan in
      let r = all_of plan fits in
      ap (λ (v : ℕ). nat_lt 96 v) (sym r.number_of_sections) ∙ none_stands (head_tests 0 g) 8 _ head_none refl

  image_fine : (plan.size_of_image == 0 || nat_lt (2 ^ 31) plan.size_of_image) ≡ false
  unfolding head_tests
  image_fine =
      let g = plan_file plan in
      let r = all_of plan fits in
      ap (λ (v : ℕ). v == 0 || nat_lt (2 ^ 31) v) (sym r.size_of_image) ∙ none_stands (head_tests 0 g) 10 _ head_none refl

  headers_parts : (table_end plan.magic (length plan.sections.items) ≤ plan.size_of_headers) × (plan.size_of_headers ≤ plan.size_of_image)
  unfolding head_tests
  headers_parts =
      let g = plan_file plan in
      let r = all_of plan fits in
      let parts = or_parts (nat_lt (field g 60 4) (section_start g (coff_field g 2 2))) _ (none_stands (head_tests 0 g) 11 _ head_none refl) in
      let others = or_parts (nat_lt (length g) (field g 60 4)) (nat_lt (field g 56 4) (field g 60 4)) parts.1 in
      let low = ltb-false _ _ parts.0 in
      let high = ltb-false _ _ others.1 in
      let p = r.p in
      let optional = r.size_of_optional_header in
      let count = r.number_of_sections in
      let headers_size = r.size_of_headers in
      let image_size = r.size_of_image in
      (omega arith, omega arith)

  size_fine : nat_lt (2 ^ 32) (plan_size plan) ≡ false
  unfolding head_tests
  size_fine = ap (λ (n : ℕ). nat_lt (2 ^ 32) n) (sym (size_of_file plan fits some headers_parts.0)) ∙ none_stands (head_tests 0 (plan_file plan)) 0 _ head_none refl

  pub not_refused : first_standing (plan_tests plan) ≡ None
  unfolding plan_tests
  not_refused =
      let aligned : (plan.file_alignment == 0) ≡ false = not_none plan.file_alignment some in
      let narrow = narrow_by plan plan.magic refl fits.numbers in
      let held : (nat_lt plan.size_of_headers (table_end plan.magic (length plan.sections.items)) || nat_lt plan.size_of_image plan.size_of_headers) ≡ false =
      or_from (nat_lt plan.size_of_headers (table_end plan.magic (length plan.sections.items))) _ (le-ltb _ _ headers_parts.0) (le-ltb _ _ headers_parts.1) in
      rw (aligned, narrow, count_fine, image_fine, held, size_fine) sections_fine
