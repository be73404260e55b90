use Rattle.std.proofs.Common.{◌≡◌, true, false, refl, arith, ◌∷◌, []}
use Rattle.std.specs.Prelude.{nat_lt, ◌^◌}
use Rattle.std.proofs.lemmas.Bool.{lt-ltb, le-ltb}
use Rattle.pe_view.specs.FirstStanding.{none-append}
use Rattle.pe_write.specs.PlanFaults.{number_tests, data_tests, plan_tests, plan_test, places_tests}
use Rattle.pe_write.specs.PlanHeaders.{plan_sections, plan_size}
use Rattle.pe_write.proofs.PlannedPlaces.{each_behind, planned_at, planned_nowhere}
use Rattle.pe_write.proofs.laws.planned_by_places.Goals as goal

pub returns-clause-headers : goal.returns-clause-headers
returns-clause-headers g c = λ r lt. let inside : nat_lt r c.args.plan.now.size_of_headers ≡ true = lt-ltb _ _ lt in rw inside refl

pub returns-clause-sections : goal.returns-clause-sections
unfolding plan_tests
returns-clause-sections g c =
    let plan = c.args.plan.now in
    λ r k s h none at header is.
    let both = none-append (number_tests plan) (data_tests plan) none in
    let places = none-append (plan_test (nat_lt (2 ^ 32) (plan_size plan)) ∷ []) (places_tests plan.size_of_image plan.size_of_headers 0 (plan_sections plan)) both.1 in
    let behind = each_behind plan.size_of_image plan.size_of_headers 0 k (plan_sections plan) h places.1 header in
    let low = is.low in
    let start = behind.0 in
    let past : nat_lt r plan.size_of_headers ≡ false = le-ltb _ _ (omega arith) in
    rw past (planned_at plan.size_of_image plan.size_of_headers plan.file_alignment 0 plan.size_of_headers k r plan.sections.items s h places.1 at header is)

pub returns-clause-gaps : goal.returns-clause-gaps
returns-clause-gaps g c =
    let plan = c.args.plan.now in
    λ r le never.
    let past : nat_lt r plan.size_of_headers ≡ false = le-ltb _ _ le in
    rw past (planned_nowhere plan.file_alignment plan.size_of_headers r plan.sections.items never)
