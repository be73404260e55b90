-- Facts about the file of a plan, from the plan's own tests.
use Rattle.std.proofs.Common.{◌≡◌, ℕ, zero, suc, ◌-◌, ◌^◌, ◌<◌, ◌≤◌, false, List, [], ◌∷◌, ◌++◌, length, take, None, refl, sym, ap, ◌∙◌, arith}
use Rattle.std.specs.Prelude.{replicate, nat_lt, ◌==◌}
use Rattle.std.specs.List.{flat_map}
use Rattle.std.proofs.lemmas.List.{take_all}
use Rattle.std.proofs.lemmas.Bool.{ltb-false, or_parts}
use Rattle.pe_view.specs.Faults.{first_standing}
use Rattle.pe_view.specs.FirstStanding.{none_stands, none-append}
use Rattle.pe_numbers.specs.Numbers.{numbers_bytes}
use Rattle.pe_head.specs.declared.headers.Headers.{Headers}
use Rattle.pe_head.specs.Head.{head_of}
use Rattle.pe_layout.specs.Plain.{plain}
use Rattle.pe_layout.specs.SectionFaults.{layout_tests, placing_tests}
use Rattle.pe_write.specs.declared.plan.Plan.{Plan}
use Rattle.pe_write.specs.PlanFile.{data_from}
use Rattle.pe_write.specs.PlanHeaders.{header_numbers, section_bytes, table_bytes, header_bytes, plan_file, plan_size, plan_sections, plan_headers, planned}
use Rattle.pe_write.specs.PlanFaults.{is_wide, plan_test, table_end, number_tests, data_tests, places_tests, plan_tests}
use Rattle.pe_write.specs.PlanFits.{IsPlan}
use Rattle.pe_write.proofs.DataSteps.{end_most}
use Rattle.pe_write.proofs.PlanHead.{Read}
use Rattle.pe_write.proofs.Planned.{data_end}
use Rattle.pe_write.proofs.PlanRead.{all_read}
use Rattle.pe_write.proofs.PlanFaults.{Bounded, layout_none}
use Rattle.pe_write.proofs.PlanPlaces.{sections_none}
use Rattle.pe_write.proofs.PlanWhole.{table-there, table-end, head-planned, plain-planned, headers-length}

positive : (n : ℕ) → (n == 0) ≡ false → 0 < n
positive zero is = absurd cc
positive (suc n) is = omega arith

pub all_of : {A : Type 0} (plan : Plan A) → IsPlan plan → Read plan (plan_file plan)
all_of plan fits = all_read plan (plan_file plan) fits (table-there plan)

-- its length
pub size_of_file : {A : Type 0} (plan : Plan A) → IsPlan plan → 0 < plan.file_alignment → table_end plan.magic (length plan.sections.items) ≤ plan.size_of_headers → length (plan_file plan) ≡ plan_size plan
unfolding plan_file
size_of_file plan fits some held = data_end plan.file_alignment some (header_bytes plan) plan.size_of_headers plan.sections.items (headers-length plan fits some held)

module _ {A : Type 0} (plan : Plan A) (none : first_standing (plan_tests plan) ≡ None) where
  pub alignment_some : 0 < plan.file_alignment
  unfolding plan_tests
  alignment_some = positive plan.file_alignment (none_stands (plan_tests plan) 0 _ none refl)

  pub table_held : table_end plan.magic (length plan.sections.items) ≤ plan.size_of_headers
  unfolding plan_tests
  table_held = ltb-false _ _ (or_parts _ _ (none_stands (plan_tests plan) 4 _ none refl)).0

  pub headers_some : 0 < plan.size_of_headers
  headers_some = let held = table_held in omega arith

  pub few : length plan.sections.items ≤ 96
  unfolding plan_tests
  few = ltb-false _ _ (none_stands (plan_tests plan) 2 _ none refl)

  pub narrow : is_wide plan.magic plan.image_base ≡ false
  unfolding plan_tests
  narrow = none_stands (plan_tests plan) 1 _ none refl

  pub size_small : plan_size plan ≤ 2 ^ 32
  unfolding plan_tests
  size_small = ltb-false _ _ (none_stands (plan_tests plan) 5 _ none refl)

  module _ (fits : IsPlan plan) where
    size-is : length (plan_file plan) ≡ plan_size plan
    size-is = size_of_file plan fits alignment_some table_held

    bounded : Bounded plan (length (plan_file plan))
    unfolding plan_tests
    bounded =
        let sizes = or_parts _ _ (none_stands (plan_tests plan) 3 _ none refl) in
        let size = size-is in
        let most = size_small in
        let least = end_most plan.file_alignment alignment_some plan.sections.items plan.size_of_headers in
        record {
          most = omega arith;
          headers = omega arith;
          few = few;
          some = positive plan.size_of_image sizes.0;
          small = ltb-false _ _ sizes.1;
          table = table_held;
          inside = ltb-false _ _ (or_parts _ _ (none_stands (plan_tests plan) 4 _ none refl)).1;
        }

    placed : first_standing (placing_tests 0 (plan_headers plan) (length (plan_file plan))) ≡ None
    unfolding plan_tests
    placed =
        let both = none-append (number_tests plan) (data_tests plan) none in
        let places = none-append (plan_test (nat_lt (2 ^ 32) (plan_size plan)) ∷ []) (places_tests plan.size_of_image plan.size_of_headers 0 (plan_sections plan)) both.1 in
        let size = size-is in
        sections_none plan.file_alignment alignment_some (plan_headers plan) (length (plan_file plan)) 0 0 plan.size_of_headers plan.sections.items (omega arith) places.1

    pub no_fault : first_standing (layout_tests 0 (plan_file plan)) ≡ None
    no_fault =
        layout_none plan (plan_file plan) 0 (all_of plan fits) bounded
        (ap (λ (h : Headers). first_standing (placing_tests 0 h (length (plan_file plan)))) (head-planned plan fits) ∙ placed)

    pub lays_out : (r : ℕ) → plain (head_of (plan_file plan)) (plan_file plan) r ≡ planned plan r
    lays_out r = ap (λ (h : Headers). plain h (plan_file plan) r) (head-planned plan fits) ∙ plain-planned plan fits alignment_some table_held r

    -- the parts in sequence
    pub made : (front table headers whole : List ℕ) (n m : ℕ) → length table ≡ n → front ≡ numbers_bytes (header_numbers plan) → table ≡ front ++ flat_map section_bytes (plan_sections plan)
        → headers ≡ take plan.size_of_headers table ++ replicate (plan.size_of_headers - n) 0
        → m ≡ plan.size_of_headers → whole ≡ headers ++ data_from plan.file_alignment m plan.sections.items → whole ≡ plan_file plan
    unfolding plan_file
    made front table headers whole n m len first second third is last =
        let held = table_held in
        let is_table : table ≡ table_bytes plan = second ∙ ap (λ (xs : List ℕ). xs ++ flat_map section_bytes (plan_sections plan)) first in
        let end = ap length is_table ∙ table-end plan fits in
        let all : take plan.size_of_headers table ≡ table = take_all plan.size_of_headers table (omega arith) in
        let zeros : replicate (plan.size_of_headers - n) 0 ≡ replicate (plan.size_of_headers - length (table_bytes plan)) 0 = ap (λ (k : ℕ). replicate (plan.size_of_headers - k) 0) (sym len ∙ ap length is_table) in
        last
        ∙ ap (λ (k : ℕ). headers ++ data_from plan.file_alignment k plan.sections.items) is
        ∙ ap (λ (xs : List ℕ). xs ++ data_from plan.file_alignment plan.size_of_headers plan.sections.items)
        (third ∙ ap (λ (xs : List ℕ). xs ++ replicate (plan.size_of_headers - n) 0) (all ∙ is_table) ∙ ap (λ (xs : List ℕ). table_bytes plan ++ xs) zeros)
