use Rattle.std.proofs.Common.{◌∙◌, ◌∷◌, []}
use Rattle.std.specs.Prelude.{nat_lt, ◌^◌}
use Rattle.std.proofs.lemmas.Result.{err_from_is_err_and}
use Rattle.pe_view.specs.FirstStanding.{first-in, first-past}
use Rattle.pe_write.specs.PlanFaults.{plan_test, number_tests, data_tests, places_tests, plan_tests}
use Rattle.pe_write.specs.PlanHeaders.{plan_sections, plan_size}
use Rattle.pe_write.proofs.plan_faults.check_plan.Goals as goal

pub returns-in_err-check_numbers : goal.returns-in_err-check_numbers
unfolding plan_tests
returns-in_err-check_numbers g c =
    let plan = c.args.plan.now in
    let p = err_from_is_err_and c.from_residual.result c.from_residual.ensures.1 in
    rw (p.1, p.2) (first-in (number_tests plan) (data_tests plan) _ c.in_err-check_numbers.ensures)

pub returns-in_err-size : goal.returns-in_err-size
unfolding plan_tests
returns-in_err-size g c =
    let plan = c.args.plan.now in
    let p = err_from_is_err_and c.from_residual-in_err-size.result c.from_residual-in_err-size.ensures.1 in
    let found = rw c.as_slice-sections.ensures.value at c.in_err-size.ensures in
    rw (p.1, p.2)
    (first-past (number_tests plan) (data_tests plan) c.in_ok-check_numbers.ensures.0
    ∙ first-in (plan_test (nat_lt (2 ^ 32) (plan_size plan)) ∷ []) (places_tests plan.size_of_image plan.size_of_headers 0 (plan_sections plan)) _ found)

pub returns-in_err-check_places : goal.returns-in_err-check_places
unfolding plan_tests
returns-in_err-check_places g c =
    let plan = c.args.plan.now in
    let p = err_from_is_err_and c.from_residual-in_err-check_places.result c.from_residual-in_err-check_places.ensures.1 in
    let small = rw c.as_slice-sections.ensures.value at c.in_ok-size.ensures.0 in
    let found = rw c.as_slice-sections.ensures.value at c.in_err-check_places.ensures in
    rw (p.1, p.2)
    (first-past (number_tests plan) (data_tests plan) c.in_ok-check_numbers.ensures.0
    ∙ first-past (plan_test (nat_lt (2 ^ 32) (plan_size plan)) ∷ []) (places_tests plan.size_of_image plan.size_of_headers 0 (plan_sections plan)) small ∙ found)

pub returns : goal.returns
unfolding plan_tests
returns g c =
    let plan = c.args.plan.now in
    let size = rw c.as_slice-sections.ensures.value at c.in_ok-size.ensures in
    let places = rw c.as_slice-sections.ensures.value at c.in_ok-check_places.ensures in (
      first-past (number_tests plan) (data_tests plan) c.in_ok-check_numbers.ensures.0
          ∙ first-past (plan_test (nat_lt (2 ^ 32) (plan_size plan)) ∷ []) (places_tests plan.size_of_image plan.size_of_headers 0 (plan_sections plan)) size.0 ∙ places.0,
      size.1,
    )
